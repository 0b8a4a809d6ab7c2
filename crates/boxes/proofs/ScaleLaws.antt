-- Round2 as code has it, the sizes of what z is computed from, and the cut of p: min(p, top) · s rounds to z cut at 255.
use mathlib.Core.Path.{◌≡◌, sym, ◌∙◌, ap, subst}
use mathlib.Core.Logic.{◌⊎◌, inl, inr}
use Prim.Native.Nat.{ℕ, zero, suc, ◌+◌, ◌-◌, ◌*◌, ◌/◌, ◌%◌, ◌^◌, ◌≤◌, ◌<◌, min}
use native.Mathlib.Omega.{arith}
use native.Mathlib.Nat.{mul-le-mul, div-le_self, mul-le-mul_right, suc-mul, div-mul-le_self, lt-div-mul-add, le-div_iff_mul-le, min-eq_left, min-eq_right, mul-div_left, pow-suc, div-lt_iff_lt-mul, le_of_suc-le-suc, mod-eq_of_lt, min-le_right, mul_assoc}
use Rattle.laws.specs.Index.{lt_or_le}
use Rattle.laws.specs.Congruence.{ap2}
use Rattle.standard.specs.declared.Depth.{Depth}
use Rattle.standard.specs.declared.Depth.TheVariants.{Eight, Ten, Twelve}
use Rattle.standard.specs.Arithmetic.{round_ℕ}
use Rattle.standard.specs.Depths.{bits, largest}
use Rattle.standard.specs.SelfGuided.{area, one_over, a2_of, spread}
use Rattle.standard.proofs.Arms.{a2_high, a2_zero, a2_middle}
use Rattle.boxes.specs.declared.scale.Scale.{Scale}
use Rattle.boxes.specs.Scaled.{Scaled}
use Rattle.boxes.specs.Scales.{z_of}

pub rounded : (k x : ℕ) → (x + 2 ^ k / 2) / 2 ^ k ≡ round_ℕ k x
unfolding round_ℕ
rounded zero x = omega arith
rounded (suc k) x = ap (λ (h : ℕ). (x + h) / 2 ^ suc k) (ap (λ (h : ℕ). h / 2) (pow-suc 2 k) ∙ mul-div_left (2 ^ k) (omega arith))

-- what is rounded away at 10 and 12 bits leaves no more than at 8 bits, nearly
pub sum_down : (d : Depth) (b : ℕ) → b ≤ 25 * largest d → round_ℕ (bits d - 8) b ≤ 6399
unfolding round_ℕ
sum_down Eight b h = omega arith
sum_down Ten b h = omega arith
sum_down Twelve b h = omega arith

pub squares_down : (d : Depth) (a : ℕ) → a ≤ 25 * (largest d * largest d) → round_ℕ (2 * (bits d - 8)) a ≤ 1637600
unfolding round_ℕ
squares_down Eight a h = omega arith
squares_down Ten a h = omega arith
squares_down Twelve a h = omega arith

-- ---- the cut
module _ (s top : ℕ) (low : 1 ≤ s) (high : s ≤ 13235) (is : top ≡ (266862592 + s - 1) / s) where
  top_high : top * s ≤ 266862592 + s - 1
  top_high = subst (λ (t : ℕ). t * s ≤ 266862592 + s - 1) (sym is) (div-mul-le_self (266862592 + s - 1) s)

  top_low : 266862592 + s - 1 < top * s + s
  top_low = subst (λ (t : ℕ). 266862592 + s - 1 < t * s + s) (sym is) (lt-div-mul-add {a = 266862592 + s - 1} {b = s} low)

  pub cut_is : (p : ℕ) → (min p top * s + 524288) / 1048576 ≡ min (round_ℕ 20 (p * s)) 255
  unfolding round_ℕ
  cut_is p = go (lt_or_le p top)
    where
      go : (p < top) ⊎ (top ≤ p) → (min p top * s + 524288) / 1048576 ≡ min ((p * s + 524288) / 1048576) 255
      go (inl h) = ap (λ (m : ℕ). (m * s + 524288) / 1048576) (min-eq_left {n = p} {m = top} (omega arith))
          ∙ sym (min-eq_left {n = (p * s + 524288) / 1048576} {m = 255} (omega (arith, top_high, mul-le-mul_right s h, suc-mul p s)))
      go (inr h) = ap (λ (m : ℕ). (m * s + 524288) / 1048576) (min-eq_right {n = top} {m = p} h)
          ∙ omega (arith, top_high, top_low) ∙ sym (min-eq_right {n = 255} {m = (p * s + 524288) / 1048576} (omega (arith, top_low, mul-le-mul_right s h)))

pub area_high : (r : ℕ) → r ≤ 2 → area r ≤ 25
area_high r h = mul-le-mul {n₁ = 2 * r + 1} {m₁ = 2 * r + 1} {n₂ = 5} {m₂ = 5} (omega arith) (omega arith)

-- s of legal numbers
module _ (r eps : ℕ) (p : 1 ≤ r) (q : r ≤ 2) (u : 1 ≤ eps) (v : eps ≤ 75) where
  pub area_square : area r * area r ≤ 625
  area_square = mul-le-mul {n₁ = area r} {m₁ = area r} {n₂ = 25} {m₂ = 25} (area_high r q) (area_high r q)

  pub ne_high : area r * area r * eps ≤ 46875
  ne_high = mul-le-mul {n₁ = area r * area r} {m₁ = eps} {n₂ = 625} {m₂ = 75} area_square v

  area_low : 9 ≤ area r
  area_low = mul-le-mul {n₁ = 3} {m₁ = 3} {n₂ = 2 * r + 1} {m₂ = 2 * r + 1} (omega arith) (omega arith)

  pub ne_low : 81 ≤ area r * area r * eps
  ne_low = mul-le-mul {n₁ = 81} {m₁ = 1} {n₂ = area r * area r} {m₂ = eps} (mul-le-mul {n₁ = 9} {m₁ = 9} {n₂ = area r} {m₂ = area r} area_low area_low) u

pub scale_low : (ne : ℕ) → 81 ≤ ne → ne ≤ 46875 → 1 ≤ (1048576 + ne / 2) / ne
scale_low ne p q = (le-div_iff_mul-le {k = ne} {x = 1} {y = 1048576 + ne / 2} (omega arith)).1 (omega arith)

pub scale_high : (ne : ℕ) → 81 ≤ ne → ne ≤ 46875 → (1048576 + ne / 2) / ne ≤ 13235
scale_high ne p q = omega (arith, div-mul-le_self (1048576 + ne / 2) ne, mul-le-mul {n₁ = (1048576 + ne / 2) / ne} {m₁ = 81} {n₂ = (1048576 + ne / 2) / ne} {m₂ = ne} (omega arith) p)

-- ---- a2
pub a2_cut : (z : ℕ) → a2_of (min z 255) ≡ a2_of z
a2_cut z = go (lt_or_le z 255)
  where
    go : (z < 255) ⊎ (255 ≤ z) → a2_of (min z 255) ≡ a2_of z
    go (inl h) = ap a2_of (min-eq_left {n = z} {m = 255} (omega arith))
    go (inr h) = ap a2_of (min-eq_right {n = 255} {m = z} h) ∙ a2_high 255 (omega arith) ∙ sym (a2_high z h)

-- 1 .. 256
middle_low : (z : ℕ) → 0 < z → 1 ≤ (256 * z + z / 2) / (z + 1)
middle_low z h = (le-div_iff_mul-le {k = z + 1} {x = 1} {y = 256 * z + z / 2} (omega arith)).1 (omega arith)

middle_high : (z : ℕ) → (256 * z + z / 2) / (z + 1) ≤ 256
middle_high z = le_of_suc-le-suc ((div-lt_iff_lt-mul {k = z + 1} {x = 256 * z + z / 2} {y = 257} (omega arith)).1 (omega arith))

pub a2_low : (z : ℕ) → 1 ≤ a2_of z
a2_low z = go (lt_or_le z 255) (lt_or_le 0 z)
  where
    go : (z < 255) ⊎ (255 ≤ z) → (0 < z) ⊎ (z ≤ 0) → 1 ≤ a2_of z
    go (inr h) q = omega (arith, a2_high z h)
    go (inl h) (inl q) = omega (arith, a2_middle z h q, middle_low z q)
    go (inl h) (inr q) = omega (arith, a2_zero z (omega arith))

pub a2_most : (z : ℕ) → a2_of z ≤ 256
a2_most z = go (lt_or_le z 255) (lt_or_le 0 z)
  where
    go : (z < 255) ⊎ (255 ≤ z) → (0 < z) ⊎ (z ≤ 0) → a2_of z ≤ 256
    go (inr h) q = omega (arith, a2_high z h)
    go (inl h) (inl q) = omega (arith, a2_middle z h q, middle_high z)
    go (inl h) (inr q) = omega (arith, a2_zero z (omega arith))

pub bits_most : (d : Depth) → bits d - 8 ≤ 4
bits_most Eight = omega arith
bits_most Ten = omega arith
bits_most Twelve = omega arith

pub largest_most : (d : Depth) → largest d ≤ 4095
largest_most Eight = omega arith
largest_most Ten = omega arith
largest_most Twelve = omega arith

-- ---- z of a pass's numbers
module _ (z : Scale) where
  g : Scaled z.depth z.s z.top z.ra z.sa z.rb z.sb
  g = z.scaled

  pub sum_rounded : (b : ℕ) → (b + z.rb) / 2 ^ z.sb ≡ round_ℕ (bits z.depth - 8) b
  sum_rounded b = ap (λ (h : ℕ). (b + h) / 2 ^ z.sb) g.rb_is ∙ rounded z.sb b ∙ ap (λ (k : ℕ). round_ℕ k b) g.sb_is

  pub squares_rounded : (a : ℕ) → (a + z.ra) / 2 ^ z.sa ≡ round_ℕ (2 * (bits z.depth - 8)) a
  squares_rounded a = ap (λ (h : ℕ). (a + h) / 2 ^ z.sa) g.ra_is ∙ rounded z.sa a ∙ ap (λ (k : ℕ). round_ℕ k a) g.sa_is

  pub sum_low : (b : ℕ) → b ≤ 25 * largest z.depth → (b + z.rb) / 2 ^ z.sb % 8192 ≡ round_ℕ (bits z.depth - 8) b
  sum_low b h = ap (λ (n : ℕ). n % 8192) (sum_rounded b) ∙ mod-eq_of_lt (omega (arith, sum_down z.depth b h))

  pub z_is : (n a b : ℕ) → b ≤ 25 * largest z.depth →
      (min ((a + z.ra) / 2 ^ z.sa * n - (b + z.rb) / 2 ^ z.sb % 8192 * ((b + z.rb) / 2 ^ z.sb % 8192)) z.top * z.s + 524288) / 1048576 ≡ z_of z n a b
  unfolding z_of spread
  z_is n a b h = ap2 (λ (A D : ℕ). (min (A * n - D * D) z.top * z.s + 524288) / 1048576) (squares_rounded a) (sum_low b h) ∙ cut_is z.s z.top g.s_low g.s_high g.top_is _

  -- what `between` takes
  pub top_small : z.top ≤ 266875826
  top_small = omega (arith, g.top_is, g.s_low, g.s_high, div-le_self (266862592 + z.s - 1) z.s)

  pub scaled_small : (a n : ℕ) → a ≤ 25 * (largest z.depth * largest z.depth) → n ≤ 25 → (a + z.ra) / 2 ^ z.sa * n ≤ 40940000
  scaled_small a n p q = mul-le-mul {n₁ = (a + z.ra) / 2 ^ z.sa} {m₁ = n} {n₂ = 1637600} {m₂ = 25} (omega (arith, squares_rounded a, squares_down z.depth a p)) q

  pub square_small : (b : ℕ) → b ≤ 25 * largest z.depth → (b + z.rb) / 2 ^ z.sb % 8192 * ((b + z.rb) / 2 ^ z.sb % 8192) ≤ 40947201
  square_small b p = let h : (b + z.rb) / 2 ^ z.sb % 8192 ≤ 6399 = omega (arith, sum_low b p, sum_down z.depth b p) in mul-le-mul h h

pub z_most : (z : Scale) (n a b : ℕ) → z_of z n a b ≤ 255
unfolding z_of
z_most z n a b = min-le_right _ 255

-- ---- b2
pub b2_most : (a b o : ℕ) → 1 ≤ a → b * o ≤ 16789500 → round_ℕ 12 ((256 - a) * b * o) ≤ 1045245
unfolding round_ℕ
b2_most a b o p q = omega (arith, mul_assoc (256 - a) b o, mul-le-mul {n₁ = 256 - a} {m₁ = b * o} {n₂ = 255} {m₂ = 16789500} (omega arith) q)

-- 3 or 5 times 5 is at most 25
pub at_most_25 : (n m : ℕ) {a : ℕ} → n ≤ 5 → a ≤ n * (5 * m) → a ≤ 25 * m
at_most_25 n m p q = omega (arith, mul-le-mul_right (5 * m) p)

-- the product under which b2 fits, for the sum of a box of radius r
pub weigh : (r : ℕ) (d : Depth) (b : ℕ) → r ≤ 2 → b ≤ (2 * r + 1) * ((2 * r + 1) * largest d) → b * one_over (area r) ≤ 16789500
weigh zero d b h p = omega (arith, largest_most d)
weigh (suc zero) d b h p = omega (arith, largest_most d)
weigh (suc (suc zero)) d b h p = omega (arith, largest_most d)
weigh (suc (suc (suc r))) d b h p = absurd (omega arith)
