-- A pass over the depth: the constants' sizes, and that sum, rounding and clip as the code has them are the standard's.
use mathlib.Core.Path.{◌≡◌, refl, sym, ◌∙◌, ap, subst}
use mathlib.Core.List.{List, [], ◌∷◌}
use mathlib.Core.Bool.{Bool, true, false, cond, not}
use Prim.Native.Nat.{ℕ, ◌+◌, ◌*◌, ◌-◌, ◌^◌, ◌<◌, ◌≤◌, min}
use native.Mathlib.Omega.{arith}
use lib.Dec.{T, lit≤, lit<, ltb, ltb→lt, nltb→le}
use lib.IntN.{ℤ, pos, negsuc, nat_abs, neg_ℤ, ◌+ℤ◌, ◌-ℤ◌, ◌*ℤ◌}
use lib.ListN.{get_or}
use lib.Signed.{◌≤ℤ◌, ◌<ℤ◌, mag, shr_z, lt_z}
use Rattle.laws.specs.Bounds.{Samples, sample_is}
use Rattle.laws.specs.Congruence.{ap2, ap4}
use Rattle.laws.specs.Integers.{diff3, differences-out, difference-arith, le_in, lt_in, le_out, eq_out, ≤ℤ_trans}
use Rattle.laws.specs.ReadBack.{integer-order}
use Rattle.laws.specs.Linear.{#, ◌⊞◌, ◌⊠◌, ring, known_le, known_lt, shr_low, shr_high}
use Rattle.laws.specs.Polynomial.{X, C, ◌⊹◌, ◌∸ₚ◌, ◌⋆◌, identity}
use Rattle.laws.specs.ReadBack.{abs_at, lt_true, lt_false, true_lt, false_lt}
use Rattle.laws.specs.Sizes.{mag_abs}
use Rattle.standard.specs.declared.Depth.{Depth}
use Rattle.standard.specs.declared.Depth.TheVariants.{Eight, Ten, Twelve}
use Rattle.standard.specs.declared.Taps.{Taps}
use Rattle.standard.specs.Arithmetic.{round2, clip3, clip_to, sum_ℤ}
use Rattle.standard.specs.Depths.{r0, r1, offset, limit, largest}
use Rattle.standard.specs.Wiener.{tap, clip_mid, across}
use Rattle.standard.proofs.Arms.{round2_more, clip3_range}
use Rattle.standard.proofs.Sums.{sum_ℤ_same}
use Rattle.wiener.specs.declared.Rounding.{Rounding}
use Rattle.wiener.specs.Mild.{Mild}
use Rattle.wiener.specs.Passes.{TapRows, Halves, seven, settled, bias, biased, unbiased, across_at, down_of, down_at}
use Rattle.wiener.proofs.TapLaws.{row_tap_lem}

pub r0_low : (d : Depth) → 1 ≤ r0 d
r0_low Eight = lit≤ tt
r0_low Ten = lit≤ tt
r0_low Twelve = lit≤ tt

pub r0_high : (d : Depth) → r0 d ≤ 5
r0_high Eight = lit≤ tt
r0_high Ten = lit≤ tt
r0_high Twelve = lit≤ tt

pub r1_low : (d : Depth) → 1 ≤ r1 d
r1_low Eight = lit≤ tt
r1_low Ten = lit≤ tt
r1_low Twelve = lit≤ tt

pub r1_high : (d : Depth) → r1 d ≤ 11
r1_high Eight = lit≤ tt
r1_high Ten = lit≤ tt
r1_high Twelve = lit≤ tt

pub offset_high : (d : Depth) → offset d ≤ 8192
offset_high Eight = lit≤ tt
offset_high Ten = lit≤ tt
offset_high Twelve = lit≤ tt

pub limit_high : (d : Depth) → limit d ≤ 32767
limit_high Eight = lit≤ tt
limit_high Ten = lit≤ tt
limit_high Twelve = lit≤ tt

pub largest_high : (d : Depth) → largest d ≤ 4095
largest_high Eight = lit≤ tt
largest_high Ten = lit≤ tt
largest_high Twelve = lit≤ tt

-- ---- the constants of a pass
pub record AcrossNumbers (d : Depth) (a : Rounding) : Type 0 where
  pub add_is : a.add ≡ pos (2 ^ (r0 d - 1)) +ℤ bias d *ℤ pos (2 ^ r0 d)
  pub shift_is : a.shift ≡ r0 d
  pub low_is : a.low ≡ negsuc 16383
  pub high_is : a.high ≡ pos (limit d) -ℤ pos 16384

pub record DownNumbers (d : Depth) (a : Rounding) : Type 0 where
  pub add_is : a.add ≡ pos (2 ^ (r1 d - 1)) -ℤ bias d *ℤ pos 128
  pub shift_is : a.shift ≡ r1 d
  pub low_is : a.low ≡ pos 0
  pub high_is : a.high ≡ pos (largest d)

-- as the code's contracts have them
pub across_numbers : {d : Depth} {a : Rounding} → (a.add ≡ pos (2 ^ (r0 d - 1)) +ℤ bias d *ℤ pos (2 ^ r0 d)) × (a.shift ≡ r0 d) → (a.low ≡ negsuc 16383) × (a.high ≡ pos (limit d) -ℤ pos 16384) → AcrossNumbers d a
across_numbers p q = record { add_is = p.0; shift_is = p.1; low_is = q.0; high_is = q.1 }

pub down_numbers : {d : Depth} {a : Rounding} → (a.add ≡ pos (2 ^ (r1 d - 1)) -ℤ bias d *ℤ pos 128) × (a.shift ≡ r1 d) → (a.low ≡ pos 0) × (a.high ≡ pos (largest d)) → DownNumbers d a
down_numbers p q = record { add_is = p.0; shift_is = p.1; low_is = q.0; high_is = q.1 }

across_add : (d : Depth) → nat_abs (pos (2 ^ (r0 d - 1)) +ℤ bias d *ℤ pos (2 ^ r0 d)) ≤ 16777216
unfolding bias
across_add Eight = lit≤ tt
across_add Ten = lit≤ tt
across_add Twelve = lit≤ tt

across_top : (d : Depth) → mag (pos (limit d) -ℤ pos 16384) < 32768
across_top Eight = lit< tt
across_top Ten = lit< tt
across_top Twelve = lit< tt

across_order : (d : Depth) → negsuc 16383 ≤ℤ (pos (limit d) -ℤ pos 16384)
across_order Eight = record { le = tt }
across_order Ten = record { le = tt }
across_order Twelve = record { le = tt }

mag_at : {x y : ℤ} → x ≡ y → mag y < 32768 → mag x < 32768
mag_at e h = subst (λ (z : ℤ). mag z < 32768) (sym e) h

order_at : {x x' y y' : ℤ} → x ≡ x' → y ≡ y' → x' ≤ℤ y' → x ≤ℤ y
order_at {x} {x'} {y} {y'} p q h = subst (λ (z : ℤ). z ≤ℤ y) (sym p) (subst (λ (z : ℤ). x' ≤ℤ z) (sym q) h)

down_add : (d : Depth) → nat_abs (pos (2 ^ (r1 d - 1)) -ℤ bias d *ℤ pos 128) ≤ 16777216
unfolding bias
down_add Eight = lit≤ tt
down_add Ten = lit≤ tt
down_add Twelve = lit≤ tt

module _ (d : Depth) {add low high : ℤ} {shift : ℕ} where
  pub across_mild : add ≡ pos (2 ^ (r0 d - 1)) +ℤ bias d *ℤ pos (2 ^ r0 d) → shift ≡ r0 d → low ≡ negsuc 16383 → high ≡ pos (limit d) -ℤ pos 16384 → Mild add shift low high
  across_mild p q r s = record {
    add_size = abs_at p (across_add d);
    shift_size = omega (arith, q, r0_high d);
    low_size = mag_at r (lit< tt);
    high_size = mag_at s (across_top d);
    order = order_at r s (across_order d);
  }

  pub down_mild : add ≡ pos (2 ^ (r1 d - 1)) -ℤ bias d *ℤ pos 128 → shift ≡ r1 d → low ≡ pos 0 → high ≡ pos (largest d) → Mild add shift low high
  down_mild p q r s = record {
    add_size = abs_at p (down_add d);
    shift_size = omega (arith, q, r1_high d);
    low_size = mag_at r (lit< tt);
    high_size = mag_at s (omega (arith, largest_high d));
    order = order_at r s (le_out (omega arith));
  }

-- ---- the clip: its two ends one after the other, and its size
above : (lo hi x : ℤ) → lo ≤ℤ hi → hi <ℤ x → lo ≤ℤ x
above lo hi x p q = omega integer-order

-- the lower end is taken by `max`
lower_end : (lo x : ℤ) → cond (lt_z lo x) x lo ≡ cond (lt_z x lo) lo x
lower_end lo x = go (lt_z lo x) (lt_z x lo) refl refl
  where
    go : (s t : Bool) → lt_z lo x ≡ s → lt_z x lo ≡ t → cond s x lo ≡ cond t lo x
    go true true e f = absurd (omega (arith, lt_in {x = lo} {y = x} (lt_true e), lt_in {x = x} {y = lo} (lt_true f)))
    go true false e f = refl
    go false true e f = refl
    go false false e f = eq_out lo x (omega (arith, le_in {x = x} {y = lo} (lt_false e), le_in {x = lo} {y = x} (lt_false f)))

pub clip_ends : (lo hi x : ℤ) → lo ≤ℤ hi → cond (lt_z lo (cond (lt_z hi x) hi x)) (cond (lt_z hi x) hi x) lo ≡ clip3 lo hi x
unfolding clip3
clip_ends lo hi x h = lower_end lo (cond (lt_z hi x) hi x) ∙ go (lt_z hi x) refl
  where
    go : (t : Bool) → lt_z hi x ≡ t → cond (lt_z (cond t hi x) lo) lo (cond t hi x) ≡ cond (lt_z x lo) lo (cond t hi x)
    go true e = ap (λ (s : Bool). cond s lo hi) (false_lt {x = hi} {y = lo} h ∙ sym (false_lt {x = x} {y = lo} (above lo hi x h (lt_true e))))
    go false e = refl

mag_between : (lo hi z : ℤ) → mag lo < 32768 → mag hi < 32768 → lo ≤ℤ z → z ≤ℤ hi → mag z < 32768
mag_between lo (pos b) (pos n) p q r s = omega (arith, le_in s)
mag_between lo (negsuc b) (pos n) p q r s = absurd (omega (arith, le_in s))
mag_between (negsuc a) hi (negsuc n) p q r s = omega (arith, le_in r)
mag_between (pos a) hi (negsuc n) p q r s = absurd (omega (arith, le_in r))

pub settled_fits : (a : Rounding) (z : ℤ) → mag (settled a z) < 32768
unfolding settled
settled_fits a z = let r = clip3_range a.low a.high (shr_z (z +ℤ a.add) (2 ^ a.shift)) a.mild.order in mag_between _ _ _ a.mild.low_size a.mild.high_size r.0 r.1

-- ---- the bias goes through shift and clip
shift_8 : (x b : ℤ) → shr_z (x +ℤ b *ℤ pos 8) 8 ≡ shr_z x 8 +ℤ b
shift_8 x b =
    let q = shr_z (x +ℤ b *ℤ pos 8) 8 in let p = shr_z x 8 in
    ring (# q) (# p ⊞ # b)
    (omega (arith, known_le (# (pos 8) ⊠ # q) (# x ⊞ # b ⊠ # (pos 8)) (shr_low (x +ℤ b *ℤ pos 8) 8 (lit< tt)), known_lt (# x ⊞ # b ⊠ # (pos 8)) (# (pos 8) ⊠ # q ⊞ # (pos 8)) (shr_high (x +ℤ b *ℤ pos 8) 8 (lit< tt)), known_le (# (pos 8) ⊠ # p) (# x) (shr_low x 8 (lit< tt)), known_lt (# x) (# (pos 8) ⊠ # p ⊞ # (pos 8)) (shr_high x 8 (lit< tt))))

shift_32 : (x b : ℤ) → shr_z (x +ℤ b *ℤ pos 32) 32 ≡ shr_z x 32 +ℤ b
shift_32 x b =
    let q = shr_z (x +ℤ b *ℤ pos 32) 32 in let p = shr_z x 32 in
    ring (# q) (# p ⊞ # b)
    (omega (arith, known_le (# (pos 32) ⊠ # q) (# x ⊞ # b ⊠ # (pos 32)) (shr_low (x +ℤ b *ℤ pos 32) 32 (lit< tt)), known_lt (# x ⊞ # b ⊠ # (pos 32)) (# (pos 32) ⊠ # q ⊞ # (pos 32)) (shr_high (x +ℤ b *ℤ pos 32) 32 (lit< tt)), known_le (# (pos 32) ⊠ # p) (# x) (shr_low x 32 (lit< tt)), known_lt (# x) (# (pos 32) ⊠ # p ⊞ # (pos 32)) (shr_high x 32 (lit< tt))))

shift_through : (d : Depth) (x b : ℤ) → shr_z (x +ℤ b *ℤ pos (2 ^ r0 d)) (2 ^ r0 d) ≡ shr_z x (2 ^ r0 d) +ℤ b
shift_through Eight = shift_8
shift_through Ten = shift_8
shift_through Twelve = shift_32

lt_shift_yes : (x y b : ℤ) → x <ℤ y → (x +ℤ b) <ℤ (y +ℤ b)
lt_shift_yes = diff3 _ (λ a b c d e f p. simp differences-out (omega difference-arith))

lt_shift_no : (x y b : ℤ) → y ≤ℤ x → (y +ℤ b) ≤ℤ (x +ℤ b)
lt_shift_no = diff3 _ (λ a b c d e f p. simp differences-out (omega difference-arith))

lt_shift : (x y b : ℤ) → lt_z (x +ℤ b) (y +ℤ b) ≡ lt_z x y
lt_shift x y b = go (lt_z x y) refl
  where
    go : (t : Bool) → lt_z x y ≡ t → lt_z (x +ℤ b) (y +ℤ b) ≡ t
    go true e = true_lt (lt_shift_yes x y b (lt_true e))
    go false e = false_lt (lt_shift_no x y b (lt_false e))

clip_shift : (lo hi x b : ℤ) → clip3 (lo +ℤ b) (hi +ℤ b) (x +ℤ b) ≡ clip3 lo hi x +ℤ b
unfolding clip3
clip_shift lo hi x b = ap2 (λ s t. cond s (lo +ℤ b) (cond t (hi +ℤ b) (x +ℤ b))) (lt_shift x lo b) (lt_shift hi x b) ∙ out (lt_z x lo) (lt_z hi x)
  where
    out : (s t : Bool) → cond s (lo +ℤ b) (cond t (hi +ℤ b) (x +ℤ b)) ≡ cond s lo (cond t hi x) +ℤ b
    out true t = refl
    out false true = refl
    out false false = refl

clip_through : (d : Depth) (x : ℤ) → clip3 (negsuc 16383) (pos (limit d) -ℤ pos 16384) (x +ℤ bias d) ≡ biased d (clip_mid d x)
unfolding bias biased clip_mid
clip_through Eight x = clip_shift (neg_ℤ (pos 2048)) (pos 8191 -ℤ pos 2048) x (pos 2048 -ℤ pos 16384)
clip_through Ten x = clip_shift (neg_ℤ (pos 8192)) (pos 32767 -ℤ pos 8192) x (pos 8192 -ℤ pos 16384)
clip_through Twelve x = clip_shift (neg_ℤ (pos 8192)) (pos 32767 -ℤ pos 8192) x (pos 8192 -ℤ pos 16384)

regroup : (z h c : ℤ) → z +ℤ (h +ℤ c) ≡ z +ℤ h +ℤ c
regroup = diff3 _ (λ a b c d e f. simp differences-out (omega difference-arith))

not_zero : {n : ℕ} → 1 ≤ n → n ≡ 0 → ⊥
not_zero h e = omega arith

-- the horizontal pass, rounded and clipped as it is kept
pub across_settled : {d : Depth} {a : Rounding} → AcrossNumbers d a → (z : ℤ) → settled a z ≡ biased d (clip_mid d (round2 (r0 d) z))
unfolding settled
across_settled {d} {a} p z =
    let h = pos (2 ^ (r0 d - 1)) in
    ap4 (λ lo hi s r. clip3 lo hi (shr_z (z +ℤ s) (2 ^ r))) p.low_is p.high_is p.add_is p.shift_is
    ∙ ap (λ y. clip3 (negsuc 16383) (pos (limit d) -ℤ pos 16384) y)
    (ap (λ y. shr_z y (2 ^ r0 d)) (regroup z h (bias d *ℤ pos (2 ^ r0 d))) ∙ shift_through d (z +ℤ h) (bias d) ∙ ap (λ y. y +ℤ bias d) (sym (round2_more z (r0 d) (not_zero (r0_low d)))))
    ∙ clip_through d (round2 (r0 d) z)

-- ---- the vertical pass takes the bias off
taken_off : (z b h : ℤ) → (z +ℤ pos 128 *ℤ b) +ℤ (h -ℤ b *ℤ pos 128) ≡ z +ℤ h
taken_off = diff3 _ (λ a b c d e f. simp differences-out (omega difference-arith))

clip_sample : (t : ℕ) (x : ℤ) → clip3 (pos 0) (pos t) x ≡ pos (clip_to t x)
unfolding clip3 clip_to
clip_sample t (pos n) =
    ap (λ (s : Bool). cond s (pos 0) (cond (lt_z (pos t) (pos n)) (pos t) (pos n))) (false_lt {x = pos n} {y = pos 0} (le_out (omega arith)))
    ∙ go (ltb t n) (ltb→lt t n) (nltb→le t n)
  where
    go : (s : Bool) → (T s → t < n) → (T (not s) → n ≤ t) → cond s (pos t) (pos n) ≡ pos (min n t)
    go true f g = ap pos (omega (arith, f tt))
    go false f g = ap pos (omega (arith, g tt))
clip_sample t (negsuc n) = refl

pub down_settled : {d : Depth} {a : Rounding} → DownNumbers d a → (z : ℤ) → settled a (z +ℤ pos 128 *ℤ bias d) ≡ pos (clip_to (largest d) (round2 (r1 d) z))
unfolding settled
down_settled {d} {a} p z =
    ap4 (λ lo hi s r. clip3 lo hi (shr_z ((z +ℤ pos 128 *ℤ bias d) +ℤ s) (2 ^ r))) p.low_is p.high_is p.add_is p.shift_is
    ∙ ap (λ y. clip3 (pos 0) (pos (largest d)) (shr_z y (2 ^ r1 d))) (taken_off z (bias d) (pos (2 ^ (r1 d - 1))))
    ∙ ap (λ y. clip3 (pos 0) (pos (largest d)) y) (sym (round2_more z (r1 d) (not_zero (r1_low d))))
    ∙ clip_sample (largest d) (round2 (r1 d) z)

-- the taps sum to 128
pub bias_out : (c0 c1 c2 b : ℤ) (g : ℕ → ℤ) → sum_ℤ 7 (λ k. tap c0 c1 c2 k *ℤ g k) ≡ sum_ℤ 7 (λ k. tap c0 c1 c2 k *ℤ (g k -ℤ b)) +ℤ pos 128 *ℤ b
unfolding sum_ℤ
bias_out c0 c1 c2 b g =
    let m = C (pos 128) ∸ₚ C (pos 2) ⋆ (X 0 ⊹ X 1 ⊹ X 2) in
    identity (c0 ∷ c1 ∷ c2 ∷ b ∷ g 0 ∷ g 1 ∷ g 2 ∷ g 3 ∷ g 4 ∷ g 5 ∷ g 6 ∷ [])
    (C (pos 0) ⊹ X 0 ⋆ X 4 ⊹ X 1 ⋆ X 5 ⊹ X 2 ⋆ X 6 ⊹ m ⋆ X 7 ⊹ X 2 ⋆ X 8 ⊹ X 1 ⋆ X 9 ⊹ X 0 ⋆ X 10)
    (C (pos 0) ⊹ X 0 ⋆ (X 4 ∸ₚ X 3) ⊹ X 1 ⋆ (X 5 ∸ₚ X 3) ⊹ X 2 ⋆ (X 6 ∸ₚ X 3) ⊹ m ⋆ (X 7 ∸ₚ X 3) ⊹ X 2 ⋆ (X 8 ∸ₚ X 3) ⊹ X 1 ⋆ (X 9 ∸ₚ X 3) ⊹ X 0 ⋆ (X 10 ∸ₚ X 3) ⊹ C (pos 128) ⋆ X 3) tt

-- ---- one value of a pass is the standard's
pub across_value : (t : Taps) {d : Depth} {a : Rounding} {n lo hi : ℕ} {tr src : List ℤ} → AcrossNumbers d a → TapRows t.h0 t.h1 t.h2 n tr → Samples (largest d) lo hi src →
    (k c : ℕ) → k < n → lo ≤ c → c + 7 ≤ hi → settled a (seven tr k src c 1) ≡ across_at d t src c
unfolding seven across
across_value t {d} {a} {src = src} p r s k c h u v =
    ap (settled a) (sum_ℤ_same 7 _ _ (λ j q. ap2 ◌*ℤ◌ (row_tap_lem r k j h) (ap (λ i. get_or src i (pos 0)) {y = c + j} (omega arith) ∙ sym (sample_is s (c + j) (omega arith) (omega arith)))))
    ∙ across_settled p _

pub down_value : (t : Taps) {d : Depth} {a : Rounding} {n : ℕ} {tr : List ℤ} → DownNumbers d a → TapRows t.v0 t.v1 t.v2 n tr →
    (k : ℕ) (s : List ℤ) (c st : ℕ) → k < n → settled a (seven tr k s c st) ≡ down_at d t s c st
unfolding seven down_of unbiased
down_value t {d} {a} p r k s c st h =
    ap (settled a) (sum_ℤ_same 7 _ _ (λ j q. ap (λ z. z *ℤ get_or s (c + j * st) (pos 0)) (row_tap_lem r k j h)) ∙ bias_out t.v0 t.v1 t.v2 (bias d) (λ j. get_or s (c + j * st) (pos 0)))
    ∙ down_settled p _

-- ---- sizes
pub samples_halves : (d : Depth) {lo hi : ℕ} {s : List ℤ} → Samples (largest d) lo hi s → Halves lo hi s
samples_halves d {s = s} p = record { half = λ k u v. omega (arith, mag_abs (get_or s k (pos 0)), p.size k u v, largest_high d) }

mag_in : {z : ℤ} → negsuc 16383 ≤ℤ z → z ≤ℤ pos 16383 → mag z < 16384
mag_in {z = pos n} p q = omega (arith, le_in q)
mag_in {z = negsuc n} p q = omega (arith, le_in p)

pub biased_half : (d : Depth) (z : ℤ) → mag (biased d (clip_mid d z)) < 16384
biased_half d z = subst (λ (y : ℤ). mag y < 16384) (clip_through d z) (within d (z +ℤ bias d))
  where
    within : (d : Depth) (y : ℤ) → mag (clip3 (negsuc 16383) (pos (limit d) -ℤ pos 16384) y) < 16384
    within Eight y = let r = clip3_range (negsuc 16383) (pos 8191 -ℤ pos 16384) y (record { le = tt }) in mag_in r.0 (≤ℤ_trans _ _ _ r.1 (record { le = tt }))
    within Ten y = let r = clip3_range (negsuc 16383) (pos 32767 -ℤ pos 16384) y (record { le = tt }) in mag_in r.0 r.1
    within Twelve y = let r = clip3_range (negsuc 16383) (pos 32767 -ℤ pos 16384) y (record { le = tt }) in mag_in r.0 r.1
