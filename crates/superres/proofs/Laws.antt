-- Laws of positions: the divisions toward zero, step and start within their bounds, and place and phase as natural numbers.
use mathlib.Core.Path.{◌≡◌, sym, ◌∙◌, ap, subst}
use mathlib.Core.Logic.{◌⊎◌, inl, inr}
use Prim.Native.Nat.{ℕ, zero, suc, ◌+◌, ◌-◌, ◌*◌, ◌/◌, ◌%◌, ◌^◌, ◌≤◌, ◌<◌, min}
use native.Mathlib.Omega.{arith}
use native.Mathlib.Nat.{div-mul-le_self, lt-div-mul-add, div-le_self, mul-le-mul, mul_comm, suc-mul, mul-suc, le_refl, zero-div}
use lib.IntN.{ℤ, pos, negsuc, neg_ℤ, nat_abs, +ℤ_idl, ◌+ℤ◌, ◌-ℤ◌}
use lib.Signed.{quot_z, shr_z}
use mir.Syntax.{w32}
use mir.Val.{SFits, to_z, of_z}
use mir.Facts.{to_z-of_z}
use Rattle.laws.specs.Congruence.{ap2}
use Rattle.laws.specs.Integers.{plus_part, minus_part, eq_out}
use Rattle.laws.specs.Linear.{#, ◌⊞◌, ◌⊟◌, ◌⊠◌, known_eq, known_le, known_lt, linear_le, ring, shr_low, shr_high, split}
use Rattle.laws.specs.Index.{lt_or_le}
use Rattle.laws.specs.Sizes.{fits_abs, abs_in, abs_neg, abs_sub}
use Rattle.standard.specs.Arithmetic.{wrap, clip_to}
use Rattle.standard.proofs.Upscaler.{wrap_lt}
use Rattle.superres.specs.Scaled.{place_at, phase_at}
use Rattle.standard.specs.Superres.{step, err, start, position, whole, phase, column}

-- ---- division toward zero
pub quot_size : (x : ℤ) (m : ℕ) → nat_abs (quot_z x (pos m)) ≤ nat_abs x
quot_size (pos a) m = div-le_self a m
quot_size (negsuc a) m = omega (arith, abs_neg (pos (suc a / m)), div-le_self (suc a) m)

quot_any : (x y : ℤ) → nat_abs (quot_z x y) ≤ nat_abs x
quot_any x (pos m) = quot_size x m
quot_any (pos a) (negsuc m) = omega (arith, abs_neg (pos (a / suc m)), div-le_self a (suc m))
quot_any (negsuc a) (negsuc m) = div-le_self (suc a) (suc m)

pub quot_small : (x y : ℤ) (n : ℕ) → nat_abs x ≤ n → nat_abs (quot_z x y) ≤ n
quot_small x y n h = omega (arith, quot_any x y)

-- what the machine divides, read as x and y: the quotient fits, and is read as the quotient
pub quot_fits : {r s : ℤ} (x y : ℤ) → r ≡ x → s ≡ y → nat_abs x ≤ 1073741824 → SFits w32 (quot_z r s)
quot_fits x y p q h = subst (SFits w32) (sym (ap2 quot_z p q)) (fits_abs 1073741824 (quot_small x y 1073741824 h) tt)

pub quot_read : {r s : ℤ} (x y : ℤ) → r ≡ x → s ≡ y → nat_abs x ≤ 1073741824 → to_z w32 (of_z w32 (quot_z r s)) ≡ quot_z x y
quot_read x y p q h = to_z-of_z (quot_fits x y p q h) ∙ ap2 quot_z p q

-- a negative number by its size
minus_quot : (n m : ℕ) → quot_z (neg_ℤ (pos n)) (pos m) ≡ pos 0 -ℤ pos (n / m)
minus_quot zero m = ap pos (zero-div m) ∙ sym (ap (λ (k : ℕ). pos 0 -ℤ pos k) (zero-div m))
minus_quot (suc n) m = sym (+ℤ_idl (neg_ℤ (pos (suc n / m))))

pub quot_back : (a b m : ℕ) → a ≤ b → quot_z (pos a -ℤ pos b) (pos m) ≡ pos 0 -ℤ pos ((b - a) / m)
quot_back a b m h =
    ap (λ (z : ℤ). quot_z z (pos m)) (ring (# (pos a) ⊟ # (pos b)) (# (pos 0) ⊟ # (pos (b - a))) (omega arith) ∙ +ℤ_idl (neg_ℤ (pos (b - a))))
    ∙ minus_quot (b - a) m

-- ---- step, err and start
pub step_high : (d u : ℕ) → u * step d u ≤ 16384 * d + u / 2
unfolding step
step_high d u = omega (arith, div-mul-le_self (2 ^ 14 * d + u / 2) u, mul_comm u ((2 ^ 14 * d + u / 2) / u))

pub step_low : (d u : ℕ) → 0 < u → 16384 * d + u / 2 < u * step d u + u
unfolding step
step_low d u h = omega (arith, lt-div-mul-add {a = 2 ^ 14 * d + u / 2} {b = u} h, mul_comm u ((2 ^ 14 * d + u / 2) / u))

-- a product that is at most another, of a common factor, in its other factors
pub factor_le : (u a b : ℕ) → 0 < u → u * a < u * b + u → a ≤ b
factor_le u a b p h = go (lt_or_le b a)
  where
    go : (b < a) ⊎ (a ≤ b) → a ≤ b
    go (inl q) = absurd (omega (arith, mul-le-mul {n₁ = u} {m₁ = suc b} {n₂ = u} {m₂ = a} (omega arith) q, mul-suc u b))
    go (inr q) = q

pub step_small : (d u : ℕ) → d < u → step d u ≤ 16384
step_small d u h = factor_le u (step d u) 16384 (omega arith) (omega (arith, step_high d u))

pub apart : (a b n : ℕ) → a ≤ b + n → b ≤ a + n → nat_abs (pos a -ℤ pos b) ≤ n
apart a b n p q = omega (arith, abs_in {lo = pos 0 -ℤ pos n} {hi = pos n} (linear_le (# (pos 0) ⊟ # (pos n)) (# (pos a) ⊟ # (pos b)) (omega arith)) (linear_le (# (pos a) ⊟ # (pos b)) (# (pos n)) (omega arith)), abs_sub (pos 0) (pos n))

pub err_size : (d u : ℕ) → 0 < u → nat_abs (err d u) ≤ u
unfolding err
err_size d u h = apart (u * step d u) (16384 * d) u (omega (arith, step_high d u)) (omega (arith, step_low d u h))

-- a remainder is that of the number with a multiple added
pub wrap_up : (z : ℤ) (m : ℕ) → pos m ≡ z +ℤ pos 32768 → m % 16384 ≡ wrap 16384 z
unfolding wrap
wrap_up (pos n) m h = omega (arith, known_eq (# (pos m)) (# (pos n) ⊞ # (pos 32768)) h)
wrap_up (negsuc n) m h = omega (arith, known_eq (# (pos m)) (# (negsuc n) ⊞ # (pos 32768)) h)

-- ---- place and phase
floor_of : (n : ℕ) → shr_z (pos n -ℤ pos 16384) 16384 ≡ pos (n / 16384) -ℤ pos 1
floor_of n =
    let q = shr_z (pos n -ℤ pos 16384) 16384 in
    eq_out q (pos (n / 16384) -ℤ pos 1)
    (omega (
      arith,
      known_le (# (pos 16384) ⊠ # q) (# (pos n) ⊟ # (pos 16384)) (shr_low (pos n -ℤ pos 16384) 16384 (omega arith)),
      known_lt (# (pos n) ⊟ # (pos 16384)) (# (pos 16384) ⊠ # q ⊞ # (pos 16384)) (shr_high (pos n -ℤ pos 16384) 16384 (omega arith)),
      split (# (pos (n / 16384)) ⊟ # (pos 1)),
    ))

bits_of : (n : ℕ) (q : ℤ) → plus_part q + 64 ≡ n / 256 + minus_part q → wrap 64 q ≡ n % 16384 / 256
unfolding wrap
bits_of n (pos a) h = omega arith
bits_of n (negsuc a) h = omega arith

-- the whole part of a position is its place less one, and the phase the six bits below it
pub whole_place : (d u x : ℕ) → whole d u x ≡ pos (place_at (start d u) (step d u) x) -ℤ pos 1
unfolding whole position
whole_place d u x = floor_of (start d u + x * step d u)

pub phase_bits : (d u x : ℕ) → phase d u x ≡ phase_at (start d u) (step d u) x
unfolding phase position
phase_bits d u x =
    let n = start d u + x * step d u in
    let q = shr_z (pos n -ℤ pos 16384) 256 in
    bits_of n q
    (omega (
      arith,
      known_le (# (pos 256) ⊠ # q) (# (pos n) ⊟ # (pos 16384)) (shr_low (pos n -ℤ pos 16384) 256 (omega arith)),
      known_lt (# (pos n) ⊟ # (pos 16384)) (# (pos 256) ⊠ # q ⊞ # (pos 256)) (shr_high (pos n -ℤ pos 16384) 256 (omega arith)),
    ))

clip_of : (last p k : ℕ) (z : ℤ) → plus_part z + 4 ≡ p + k + minus_part z → clip_to last z ≡ min (p + k - 4) last
unfolding clip_to
clip_of last p k (pos n) h = omega arith
clip_of last p k (negsuc n) h = omega arith

min_both : (a b c : ℕ) → min (min a b) c ≡ min a (min b c)
min_both a b c = omega arith

-- both clips are one, to the smaller of the two last columns
pub column_place : (d u last cols x k : ℕ) → column d u last cols x k ≡ min (place_at (start d u) (step d u) x + k - 4) (min last (cols - 1))
unfolding column
column_place d u last cols x k =
    let p = place_at (start d u) (step d u) x in
    ap (λ (c : ℕ). min c (cols - 1)) (clip_of last p k (whole d u x +ℤ pos k -ℤ pos 3)
    (omega (arith, split (# (whole d u x) ⊞ # (pos k) ⊟ # (pos 3)), known_eq (# (whole d u x)) (# (pos p) ⊟ # (pos 1)) (whole_place d u x))))
    ∙ min_both (p + k - 4) last (cols - 1)

pub start_small : (d u : ℕ) → start d u < 16384
unfolding start
start_small d u = wrap_lt 16384 _ (omega arith)

-- the last column reads at most two places past the row's own width
pub place_small : (d u x : ℕ) → x < u → u ≤ 16384 → place_at (start d u) (step d u) x ≤ d + 1
place_small d u x h k = omega (arith, start_small d u, step_high d u, mul-le-mul {n₁ = suc x} {m₁ = step d u} {n₂ = u} {m₂ = step d u} h (le_refl (step d u)), suc-mul x (step d u))
