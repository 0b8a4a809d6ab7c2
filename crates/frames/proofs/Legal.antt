-- What a frame's numbers are where tests 2 and 4 give no number: subsampling of the domain, sides in range, and so the plane's extents.
use mathlib.Core.Path.{◌≡◌, sym, ◌∙◌, ap, subst}
use mathlib.Core.Bool.{Bool, true, false, ◌||◌}
use mathlib.Core.List.{List, [], ◌∷◌}
use Prim.Native.Nat.{ℕ, zero, suc, ◌≤◌, ◌<◌}
use native.Mathlib.Omega.{arith}
use borrow.Author.Tests.{eqb-false, ltb-false}
use lib.Dec.{T, eqb, ltb}
use Rattle.laws.specs.Tests.{Test, test, or_no}
use Rattle.standard.specs.declared.Frame.{Frame}
use Rattle.frames.specs.declared.plane.Plane.{Plane}
use Rattle.standard.specs.Arithmetic.{round_ℕ}
use Rattle.standard.specs.Refusals.{first, frame2, frame4, no2, no4, sub_x_of, sub_y_of, plane_height, plane_width}
use Rattle.standard.proofs.Stripes.{Halved, full, half}
use Rattle.frames.proofs.Conditions.{plane_high, sub_high, sub_pair, sub_small}

pub halved : (sy : ℕ) → sy ≤ 1 → Halved sy
halved zero h = full
halved (suc zero) h = half
halved (suc (suc n)) h = absurd (omega arith)

clash : {A : Type 0} {b : Bool} → true ≡ b → b ≡ false → A
clash p q = absurd (subst T (p ∙ q) tt)

pub subs_small : (p sx sy : ℕ) → no2 p sx sy ≡ false → (sx ≤ 1) × (sy ≤ 1)
subs_small p sx sy e = go (ltb 2 p) (test 2 p) (ltb 1 sx) (test 1 sx)
  where
    go : (a : Bool) → Test 2 p a → (b : Bool) → Test 1 sx b → (sx ≤ 1) × (sy ≤ 1)
    go true (Test.below h) b t = clash (plane_high p sx sy h) e
    go false (Test.above h) true (Test.below k) = clash (sub_high p sx sy h k) e
    go false (Test.above h) false (Test.above k) = let q = ltb-false sx sy (sub_pair p sx sy h k ∙ e) in (k, omega (arith, q))

pub side_legal : (n : ℕ) → no4 n ≡ false → (0 < n) × (n ≤ 16384)
unfolding no4
side_legal n e = let p = or_no (eqb n 0) (ltb 16384 n) e in let z = eqb-false n 0 p.0 in (omega arith, ltb-false 16384 n p.1)

pub extent_legal : {sub : ℕ} → Halved sub → (side : ℕ) → (0 < side) × (side ≤ 16384) → (0 < round_ℕ sub side) × (round_ℕ sub side ≤ 16384)
unfolding round_ℕ
extent_legal full side h = (omega arith, omega arith)
extent_legal half side h = (omega arith, omega arith)

pub record LegalFrame (f : Frame) : Type 0 where
  pub sub_x : f.sub_x ≤ 1
  pub sub_y : f.sub_y ≤ 1
  pub high : f.frame_height ≤ 16384
  pub wide : f.upscaled_width ≤ 16384
  pub own_x : sub_x_of f ≤ 1
  pub own_y : sub_y_of f ≤ 1
  pub rows : 0 < plane_height f
  pub rows_low : plane_height f ≤ 16384
  pub cols : 0 < plane_width f
  pub cols_low : plane_width f ≤ 16384

pub legal_frame : (f : Frame) → no2 f.plane f.sub_x f.sub_y ≡ false → no4 f.frame_height ≡ false → no4 f.upscaled_width ≡ false → LegalFrame f
legal_frame f two high wide =
    let subs = subs_small f.plane f.sub_x f.sub_y two in
    let own_x : sub_x_of f ≤ 1 = sub_small f.plane f.sub_x 1 subs.0 in
    let own_y : sub_y_of f ≤ 1 = sub_small f.plane f.sub_y 1 subs.1 in
    let h = side_legal f.frame_height high in
    let w = side_legal f.upscaled_width wide in
    let rows = extent_legal (halved (sub_y_of f) own_y) f.frame_height h in
    let cols = extent_legal (halved (sub_x_of f) own_x) f.upscaled_width w in
    record { sub_x = subs.0; sub_y = subs.1; high = h.1; wide = w.1; own_x = own_x; own_y = own_y; rows = rows.0; rows_low = rows.1; cols = cols.0; cols_low = cols.1 }

pub legal_plane : (p : Plane) → LegalFrame p.frame
legal_plane p = legal_frame p.frame p.plane p.high p.wide

-- ---- the number that tests 2 and 4 give, with whatever tests after them
module _ (f : Frame) where
  pub gives_2 : no2 f.plane f.sub_x f.sub_y ≡ true → 2 ≡ first (frame2 f ∷ frame4 f ∷ [])
  unfolding first
  gives_2 e = rw e

  module _ (e2 : no2 f.plane f.sub_x f.sub_y ≡ false) where
    pub gives_4 : no4 f.frame_height ≡ true → 4 ≡ first (frame2 f ∷ frame4 f ∷ [])
    unfolding first
    gives_4 e = rw (e2, e)

    pub gives_4_wide : no4 f.frame_height ≡ false → no4 f.upscaled_width ≡ true → 4 ≡ first (frame2 f ∷ frame4 f ∷ [])
    unfolding first
    gives_4_wide eh e = rw (e2, eh, e)

    pub gives_0 : no4 f.frame_height ≡ false → no4 f.upscaled_width ≡ false → 0 ≡ first (frame2 f ∷ frame4 f ∷ [])
    unfolding first
    gives_0 eh ew = rw (e2, eh, ew)

given_early : (a b : Bool) (n : ℕ) (l : List (ℕ × Bool)) → 1 ≤ n → n ≡ first ((2, a) ∷ (4, b) ∷ []) → n ≡ first ((2, a) ∷ (4, b) ∷ l)
unfolding first
given_early true b n l p e = e
given_early false true n l p e = e
given_early false false n l p e = absurd (omega (arith, p, e))

-- a number that 2 or 4 gives is that of a longer list
pub given_first : (f : Frame) (n : ℕ) (l : List (ℕ × Bool)) → 1 ≤ n → n ≡ first (frame2 f ∷ frame4 f ∷ []) → n ≡ first (frame2 f ∷ frame4 f ∷ l)
given_first f n l p e = given_early (no2 f.plane f.sub_x f.sub_y) (no4 f.frame_height || no4 f.upscaled_width) n l p e

-- where the plane's numbers are legal, 2 and 4 are passed
pub passed_first : (p : Plane) (l : List (ℕ × Bool)) → first (frame2 p.frame ∷ frame4 p.frame ∷ l) ≡ first l
unfolding first
passed_first p l = rw (p.plane, p.high, p.wide)

-- the same where a test of number 3 that does not hold stands between them
between : (a b : Bool) (n : ℕ) (l : List (ℕ × Bool)) → 1 ≤ n → n ≡ first ((2, a) ∷ (4, b) ∷ []) → n ≡ first ((2, a) ∷ (3, false) ∷ (4, b) ∷ l)
unfolding first
between true b n l p e = e
between false true n l p e = e
between false false n l p e = absurd (omega (arith, p, e))

pub given_between : (f : Frame) (c : Bool) (n : ℕ) (l : List (ℕ × Bool)) → c ≡ false → 1 ≤ n → n ≡ first (frame2 f ∷ frame4 f ∷ []) → n ≡ first (frame2 f ∷ (3, c) ∷ frame4 f ∷ l)
given_between f c n l z p e = between (no2 f.plane f.sub_x f.sub_y) (no4 f.frame_height || no4 f.upscaled_width) n l p e ∙ ap (λ b. first (frame2 f ∷ (3, b) ∷ frame4 f ∷ l)) (sym z)

pub passed_between : (p : Plane) (c : Bool) (l : List (ℕ × Bool)) → c ≡ false → first (frame2 p.frame ∷ (3, c) ∷ frame4 p.frame ∷ l) ≡ first l
unfolding first
passed_between p c l z = rw (p.plane, z, p.high, p.wide)
