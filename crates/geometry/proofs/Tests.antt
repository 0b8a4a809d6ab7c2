-- The tests of a frame: the number that each gives, what passes has legal numbers, and the answers beside them.
use mathlib.Core.Path.{◌≡◌, refl, sym, ◌∙◌, ap}
use mathlib.Core.Bool.{Bool, true, false, cond}
use mathlib.Core.List.{[], ◌∷◌}
use Prim.Native.Nat.{ℕ, ◌≤◌, ◌<◌}
use native.Mathlib.Omega.{arith}
use lib.Dec.{leb}
use borrow.Author.Tests.{ne_eqb}
use Rattle.laws.specs.Tests.{or_no}
use Rattle.frames.proofs.Legal.{given_first, legal_frame, passed_first}
use Rattle.frames.specs.declared.plane.Plane.{Plane}
use Rattle.geometry.specs.declared.planes.Divided.{Divided}
use Rattle.standard.specs.declared.Frame.{Frame}
use Rattle.standard.specs.declared.Counts.{Counts}
use Rattle.standard.specs.declared.Geometry.{Geometry}
use Rattle.standard.specs.Stripes.{rectangle, rectangles}
use Rattle.standard.specs.Refusals.{no2, no4, no5, size5, frame2, frame4, first, count_tests, rectangle_tests, sub_x_of, sub_y_of, plane_height, plane_width}
use Rattle.standard.specs.Answers.{no_counts, nowhere}
use Rattle.standard.specs.Calls.{counts_of, count_answer, rectangle_answer}
use Rattle.standard.proofs.Stripes.{Size, s32, s64, s128, s256, size_of}
use Rattle.standard.proofs.Frames.{sized_of}
use Rattle.standard.proofs.Refusals.{count_table, first_here}
use Rattle.geometry.specs.Legal.{Legal}

-- ---- the number that the tests give
pub gives_2_4 : (f : Frame) (n : ℕ) → 1 ≤ n → n ≡ first (frame2 f ∷ frame4 f ∷ []) → n ≡ first (count_tests f)
unfolding count_tests
gives_2_4 f n p e = given_first f n ((5, size5 f) ∷ []) p e

pub gives_0 : (f : Frame) → no2 f.plane f.sub_x f.sub_y ≡ false → no4 f.frame_height ≡ false → no4 f.upscaled_width ≡ false → size5 f ≡ false → 0 ≡ first (count_tests f)
unfolding count_tests first
gives_0 f e2 eh ew e5 = rw (e2, eh, ew, e5)

-- where a plane of the frame is known, number 5 alone is left
module _ (p : Plane) (f : Frame) (q : p.frame ≡ f) where
  pub size_5 : size5 f ≡ true → 5 ≡ first (count_tests f)
  unfolding count_tests
  size_5 e = sym (passed_first p ((5, size5 p.frame) ∷ []) ∙ first_here 5 (size5 p.frame) [] (ap (λ g. size5 g) q ∙ e)) ∙ ap (λ g. first (count_tests g)) q

  pub size_0 : size5 f ≡ false → 0 ≡ first (count_tests f)
  size_0 e = gives_0 p.frame p.plane p.high p.wide (ap (λ g. size5 g) q ∙ e) ∙ ap (λ g. first (count_tests g)) q

-- ---- what the numbers of a frame are where no test gives one
size_legal : {size : ℕ} → Size size → (0 < size) × (size ≤ 256)
size_legal s32 = (omega arith, omega arith)
size_legal s64 = (omega arith, omega arith)
size_legal s128 = (omega arith, omega arith)
size_legal s256 = (omega arith, omega arith)

pub record Passed (f : Frame) : Type 0 where
  pub sub_x : f.sub_x ≤ 1
  pub sub_y : f.sub_y ≤ 1
  pub high : f.frame_height ≤ 16384
  pub wide : f.upscaled_width ≤ 16384
  pub own_x : sub_x_of f ≤ 1
  pub legal : Legal (sub_y_of f) f.unit_size (plane_height f) (plane_width f)
  pub no_2 : no2 f.plane f.sub_x f.sub_y ≡ false
  pub no_5 : no5 f.plane f.sub_x f.sub_y f.unit_size ≡ false

pub passed : (f : Frame) → first (count_tests f) ≡ 0 → Passed f
unfolding count_tests
passed f e =
    let none = (count_table f).complete e in
    let sides = or_no (no4 f.frame_height) (no4 f.upscaled_width) (none 1) in
    let l = legal_frame f (none 0) sides.0 sides.1 in
    let size = size_legal (size_of (sized_of f (none 0) (none 2))) in
    record {
      sub_x = l.sub_x;
      sub_y = l.sub_y;
      high = l.high;
      wide = l.wide;
      own_x = l.own_x;
      legal = record {
        half = l.own_y;
        unit = size.0;
        small = size.1;
        rows = l.rows;
        high = l.rows_low;
        columns = l.cols;
        wide = l.cols_low;
      };
      no_2 = none 0;
      no_5 = none 2;
    }

pub divided_passes : (d : Divided) → first (count_tests d.plane.frame) ≡ 0
divided_passes d = sym (gives_0 d.plane.frame d.plane.plane d.plane.high d.plane.wide d.size)

pub divided : (d : Divided) → Passed d.plane.frame
divided d = passed _ (divided_passes d)

-- and a frame of such numbers is a plane, divided
pub untested : (f : Frame) → first (count_tests f) ≡ 0 → (no2 f.plane f.sub_x f.sub_y ≡ false) × (no4 f.frame_height ≡ false) × (no4 f.upscaled_width ≡ false)
unfolding count_tests
untested f e =
    let none = (count_table f).complete e in
    let sides = or_no (no4 f.frame_height) (no4 f.upscaled_width) (none 1) in
    (none 0, sides.0, sides.1)

-- ---- the answers
pub count_done : (f : Frame) (k : Counts) → first (count_tests f) ≡ 0 → k ≡ counts_of f → (0, k) ≡ count_answer f
unfolding count_answer
count_done f k e q = rw (e, q)

-- counts are answered only where the tests pass
pub done_passes : (f : Frame) (k : Counts) → (0, k) ≡ count_answer f → first (count_tests f) ≡ 0
unfolding count_answer
done_passes f k e = sym (ap (λ p. p.0) e)

pub count_refused : (f : Frame) (n : ℕ) → 1 ≤ n → n ≡ first (count_tests f) → (n, no_counts) ≡ count_answer f
unfolding count_answer
count_refused f n p e = rw (← e, ne_eqb n 0 (λ z. omega arith))

-- the tests of a rectangle are those of the counts, and then its index
more : (a b c d : Bool) → 1 ≤ first ((2, a) ∷ (4, b) ∷ (5, c) ∷ []) → first ((2, a) ∷ (4, b) ∷ (5, c) ∷ (13, d) ∷ []) ≡ first ((2, a) ∷ (4, b) ∷ (5, c) ∷ [])
unfolding first
more true b c d h = refl
more false true c d h = refl
more false false true d h = refl
more false false false d h = absurd (omega arith)

past : (a b c d : Bool) → first ((2, a) ∷ (4, b) ∷ (5, c) ∷ []) ≡ 0 → first ((2, a) ∷ (4, b) ∷ (5, c) ∷ (13, d) ∷ []) ≡ cond d 13 0
unfolding first
past true b c d h = absurd (omega arith)
past false true c d h = absurd (omega arith)
past false false true d h = absurd (omega arith)
past false false false d h = refl

abbrev pub over : Frame → ℕ → Bool
over f i = leb (rectangles (sub_y_of f) f.unit_size (plane_height f) (plane_width f)) i

pub number_past : (f : Frame) (i : ℕ) → first (count_tests f) ≡ 0 → first (rectangle_tests f i) ≡ cond (over f i) 13 0
unfolding count_tests rectangle_tests
number_past f i e = past _ _ _ (over f i) e

pub rectangle_done : (f : Frame) (i : ℕ) (g : Geometry) → first (count_tests f) ≡ 0 → over f i ≡ false →
    g ≡ rectangle (sub_y_of f) f.unit_size (plane_height f) (plane_width f) i → (0, g) ≡ rectangle_answer f i
unfolding rectangle_answer
rectangle_done f i g e o q = rw (number_past f i e, o, q)

pub rectangle_over : (f : Frame) (i : ℕ) → first (count_tests f) ≡ 0 → over f i ≡ true → (13, nowhere) ≡ rectangle_answer f i
unfolding rectangle_answer
rectangle_over f i e o = rw (number_past f i e, o)

pub rectangle_refused : (f : Frame) (i n : ℕ) → 1 ≤ n → n ≡ first (count_tests f) → (n, nowhere) ≡ rectangle_answer f i
unfolding rectangle_answer count_tests rectangle_tests
rectangle_refused f i n p e =
    let q : first (rectangle_tests f i) ≡ n = more _ _ _ (over f i) (omega arith) ∙ sym e in
    rw (q, ne_eqb n 0 (λ z. omega arith))
