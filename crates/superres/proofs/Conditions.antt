-- The call's conditions where earlier tests have answered, and what is known where a condition does not hold.
use mathlib.Core.Path.{◌≡◌, ◌∙◌, subst}
use mathlib.Core.Bool.{Bool, true, false, ◌||◌}
use mathlib.Core.Logic.{◌⊎◌, inl, inr}
use Prim.Native.Nat.{ℕ, ◌≤◌, ◌<◌}
use native.Mathlib.Omega.{arith}
use borrow.Author.Tests.{ltb-false, eqb-false}
use lib.Dec.{T, eqb, ltb}
use Rattle.laws.specs.Index.{lt_or_le}
use Rattle.laws.specs.Tests.{or_no}
use Rattle.standard.specs.declared.Scaling.{Scaling}
use Rattle.standard.specs.Refusals.{no2, no4}
use Rattle.frames.proofs.Conditions.{plane_high, sub_high, sub_pair}
use Rattle.superres.specs.Sides.{Sided}

clash : {A : Type 0} {b : Bool} → true ≡ b → b ≡ false → A
clash p q = absurd (subst T (p ∙ q) tt)

-- ---- 2 and 4 are not given
pub subs : (p sx sy : ℕ) → no2 p sx sy ≡ false → (sx ≤ 1) × (sy ≤ 1)
subs p sx sy e = go (lt_or_le 2 p) (lt_or_le 1 sx)
  where
    go : (2 < p) ⊎ (p ≤ 2) → (1 < sx) ⊎ (sx ≤ 1) → (sx ≤ 1) × (sy ≤ 1)
    go (inl h) q = clash (plane_high p sx sy h) e
    go (inr h) (inl q) = clash (sub_high p sx sy h q) e
    go (inr h) (inr q) = (q, omega (arith, ltb-false sx sy (sub_pair p sx sy h q ∙ e)))

pub side : (n : ℕ) → no4 n ≡ false → (0 < n) × (n ≤ 16384)
unfolding no4
side n e =
    let r = or_no (eqb n 0) (ltb 16384 n) e in
    let some : n ≡ 0 → ⊥ = eqb-false n 0 r.0 in
    (omega arith, ltb-false 16384 n r.1)

pub sided : (s : Scaling) → no2 s.plane s.sub_x s.sub_y ≡ false → (no4 s.frame_height || no4 s.frame_width || no4 s.upscaled_width) ≡ false → Sided s
sided s p q =
    let a = or_no (no4 s.frame_height || no4 s.frame_width) (no4 s.upscaled_width) q in
    let b = or_no (no4 s.frame_height) (no4 s.frame_width) a.0 in
    let sub = subs s.plane s.sub_x s.sub_y p in
    record {
      sub_x = sub.0;
      sub_y = sub.1;
      height = (side s.frame_height b.0).1;
      width = (side s.frame_width b.1).1;
      upscaled = (side s.upscaled_width a.1).1;
      some_rows = (side s.frame_height b.0).0;
      some_cols = (side s.frame_width b.1).0;
    }
