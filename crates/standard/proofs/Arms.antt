-- The cases of the definitions that code has a branch for: each arm as a law over its condition.
use mathlib.Core.Path.{◌≡◌, refl, ap}
use mathlib.Core.Bool.{Bool, true, false, cond}
use Prim.Native.Nat.{ℕ, zero, suc, ◌+◌, ◌-◌, ◌*◌, ◌/◌, ◌^◌, ◌≤◌, ◌<◌}
use native.Mathlib.Omega.{arith}
use borrow.Author.Tests.{ne_eqb}
use lib.Dec.{leb, eqb, le→leb, leb→le, eqb→eq}
use lib.Pow.{pow_mono}
use lib.IntN.{ℤ, pos, negsuc, nat_abs, ◌+ℤ◌}
use lib.Signed.{◌≤ℤ◌, ◌<ℤ◌, shr_z, lt_z, ≤ℤ_refl}
use Rattle.laws.specs.Tests.{is_false, is_true}
use Rattle.laws.specs.Sizes.{abs_add, abs_shr_le}
use Rattle.laws.specs.ReadBack.{integer-order, true_lt, false_lt, lt_false}
use Rattle.standard.specs.declared.Depth.TheVariants.{Eight, Ten, Twelve}
use Rattle.standard.specs.Arithmetic.{round2, round_ℕ, clip3, clip_to}
use Rattle.standard.specs.Depths.{depth_of}
use Rattle.standard.specs.SelfGuided.{a2_of}

pub a2_high : (z : ℕ) → 255 ≤ z → a2_of z ≡ 256
unfolding a2_of
a2_high z h = rw (is_true (leb 255 z) (le→leb 255 z h))

pub a2_zero : (z : ℕ) → z ≡ 0 → a2_of z ≡ 1
unfolding a2_of
a2_zero z e = ap a2_of e

pub a2_middle : (z : ℕ) → z < 255 → 0 < z → a2_of z ≡ (256 * z + z / 2) / (z + 1)
unfolding a2_of
a2_middle z h p = rw (is_false (leb 255 z) (λ t. omega (arith, leb→le 255 z t)), is_false (eqb z 0) (λ t. omega (arith, eqb→eq z 0 t)))

-- the arms of a clip to 0 .. top
pub clip_neg : (t : ℕ) {z : ℤ} → z <ℤ pos 0 → clip_to t z ≡ 0
unfolding clip_to
clip_neg t {z = pos n} h = absurd (omega integer-order)
clip_neg t {z = negsuc n} h = refl

pub clip_high : (t : ℕ) {z : ℤ} → pos t <ℤ z → clip_to t z ≡ t
unfolding clip_to
clip_high t {z = pos n} h = omega integer-order
clip_high t {z = negsuc n} h = absurd (omega integer-order)

pub clip_mid : (t : ℕ) {z : ℤ} → pos 0 ≤ℤ z → z ≤ℤ pos t → clip_to t z ≡ nat_abs z
unfolding clip_to
clip_mid t {z = pos n} h k = omega integer-order
clip_mid t {z = negsuc n} h k = absurd (omega integer-order)

-- the arms of a clip to lo .. hi, and that its result lies there
module _ {lo x : ℤ} (hi : ℤ) where
  pub clip3_below : x <ℤ lo → clip3 lo hi x ≡ lo
  unfolding clip3
  clip3_below h = rw (true_lt h)

module _ {lo hi x : ℤ} where
  pub clip3_above : lo ≤ℤ x → hi <ℤ x → clip3 lo hi x ≡ hi
  unfolding clip3
  clip3_above h k = rw (false_lt h, true_lt k)

  pub clip3_inside : lo ≤ℤ x → x ≤ℤ hi → clip3 lo hi x ≡ x
  unfolding clip3
  clip3_inside h k = rw (false_lt h, false_lt k)

clip3_pick : (lo hi x : ℤ) (s t : Bool) → lt_z x lo ≡ s → lt_z hi x ≡ t → lo ≤ℤ hi → (lo ≤ℤ cond s lo (cond t hi x)) × (cond s lo (cond t hi x) ≤ℤ hi)
clip3_pick lo hi x true t e f h = (≤ℤ_refl lo, h)
clip3_pick lo hi x false true e f h = (h, ≤ℤ_refl hi)
clip3_pick lo hi x false false e f h = (lt_false e, lt_false f)

pub clip3_range : (lo hi x : ℤ) → lo ≤ℤ hi → (lo ≤ℤ clip3 lo hi x) × (clip3 lo hi x ≤ℤ hi)
unfolding clip3
clip3_range lo hi x h = clip3_pick lo hi x (lt_z x lo) (lt_z hi x) refl refl h

-- Round2 by 0, by more, and a bound of what is rounded
pub round2_zero : (x : ℤ) (n : ℕ) → n ≡ 0 → round2 n x ≡ x
unfolding round2
round2_zero x n e = rw e

pub round2_more : (x : ℤ) (n : ℕ) → (n ≡ 0 → ⊥) → round2 n x ≡ shr_z (x +ℤ pos (2 ^ (n - 1))) (2 ^ n)
unfolding round2
round2_more x zero f = absurd (f refl)
round2_more x (suc n) f = ap (λ (k : ℕ). shr_z (x +ℤ pos (2 ^ k)) (2 ^ suc n)) (omega arith)

pub round2_small : (x : ℤ) (n m : ℕ) → nat_abs x ≤ m → nat_abs (round2 n x) ≤ m + 2 ^ n
unfolding round2
round2_small x zero m h = omega arith
round2_small x (suc n) m h =
    omega (arith, abs_shr_le (x +ℤ pos (2 ^ n)) (2 ^ suc n), abs_add x (pos (2 ^ n)), pow_mono {i = n} {j = suc n} (omega arith))

pub round_ℕ_zero : (x n : ℕ) → n ≡ 0 → round_ℕ n x ≡ x
unfolding round_ℕ
round_ℕ_zero x n e = rw e

pub round_ℕ_more : (x n : ℕ) → (n ≡ 0 → ⊥) → round_ℕ n x ≡ (x + 2 ^ (n - 1)) / 2 ^ n
unfolding round_ℕ
round_ℕ_more x zero f = absurd (f refl)
round_ℕ_more x (suc n) f = ap (λ (k : ℕ). (x + 2 ^ k) / 2 ^ suc n) (omega arith)

-- the depth of a number
pub depth_eight : (n : ℕ) → n ≡ 8 → depth_of n ≡ Eight
depth_eight n e = ap depth_of e

pub depth_ten : (n : ℕ) → n ≡ 10 → depth_of n ≡ Ten
depth_ten n e = ap depth_of e

pub depth_twelve : (n : ℕ) → (n ≡ 8 → ⊥) → (n ≡ 10 → ⊥) → depth_of n ≡ Twelve
depth_twelve n p q = rw (ne_eqb n 8 p, ne_eqb n 10 q)
