-- What the promises of `count` and `rectangle` say: no second answer keeps them, and the rectangles that are answered cover the plane.
use mathlib.Core.Path.{◌≡◌, refl, sym, ◌∙◌, ap, subst}
use mathlib.Core.Bool.{Bool, true, false}
use Prim.Native.Nat.{ℕ, ◌<◌}
use native.Mathlib.Omega.{arith}
use lib.Dec.{ltb}
use borrow.Author.Tests.{le-leb, lt-leb}
use Rattle.std.specs.Prelude.{Result, Ok}
use Rattle.laws.specs.Tests.{Test, test}
use Rattle.standard.specs.declared.Frame.{Frame}
use Rattle.standard.specs.declared.Counts.{Counts}
use Rattle.standard.specs.declared.Refusal.{Refusal}
use Rattle.standard.specs.declared.Geometry.{Geometry}
use Rattle.standard.specs.Answers.{of_counted, of_placed}
use Rattle.standard.specs.Calls.{count_answer, rectangle_answer, counts_of}
use Rattle.standard.specs.Refusals.{first, count_tests, sub_x_of, sub_y_of, plane_height, plane_width}
use Rattle.standard.specs.Stripes.{rectangle, rectangles, block, block_of}
use Rattle.standard.proofs.Answers.{counted_once, placed_once}
use Rattle.standard.proofs.Frames.{sized_of}
use Rattle.standard.proofs.Rectangles.{In, index_of, index_below, covered, once, named}
use Rattle.frames.proofs.Legal.{halved}
use Rattle.geometry.proofs.Laws.{count_small}
use Rattle.geometry.proofs.Tests.{passed, rectangle_done, rectangle_over, count_done}

pub count_once : (f : Frame) (r s : Result Counts Refusal) → of_counted r ≡ count_answer f → of_counted s ≡ count_answer f → r ≡ s
count_once f r s p q = counted_once r s (p ∙ sym q)

pub rectangle_once : (f : Frame) (index : ℕ) (r s : Result Geometry Refusal) → of_placed r ≡ rectangle_answer f index → of_placed s ≡ rectangle_answer f index → r ≡ s
rectangle_once f index r s p q = placed_once r s (p ∙ sym q)

-- ---- the rectangles of a frame that passes its tests
abbrev many : Frame → ℕ
many f = rectangles (sub_y_of f) f.unit_size (plane_height f) (plane_width f)

abbrev nth : Frame → ℕ → Geometry
nth f = rectangle (sub_y_of f) f.unit_size (plane_height f) (plane_width f)

-- the block that the specification derives for a sample's 4 by 4 luma block
abbrev pub block_at : Frame → ℕ → ℕ → Geometry
block_at f y x = block (sub_x_of f) (sub_y_of f) f.unit_size (plane_height f) (plane_width f) (block_of (sub_y_of f) y) (block_of (sub_x_of f) x)

-- answers that keep the promise of `rectangle`, one for each index of 32 bits
abbrev pub Promised : Frame → (ℕ → Result Geometry Refusal) → Type 0
Promised f answer = (i : ℕ) → i < 4294967296 → of_placed (answer i) ≡ rectangle_answer f i

-- the one rectangle that holds the sample (y, x): it is answered below the count that is answered, holds the sample, names the unit and the
-- stripe of the sample's block, and no other answer holds the sample
pub record Once (f : Frame) (counted : Result Counts Refusal) (answer : ℕ → Result Geometry Refusal) (y x : ℕ) : Type 0 where
  pub counts : Counts
  pub is_counted : counted ≡ Ok counts
  pub index : ℕ
  pub below : index < counts.rectangles
  pub place : Geometry
  pub answered : answer index ≡ Ok place
  pub holds : In place y x
  pub unit_row : place.unit_row ≡ (block_at f y x).unit_row
  pub unit_col : place.unit_col ≡ (block_at f y x).unit_col
  pub stripe_start : place.stripe_start_y ≡ (block_at f y x).stripe_start_y
  pub stripe_end : place.stripe_end_y ≡ (block_at f y x).stripe_end_y
  pub only : (i : ℕ) (g : Geometry) → i < 4294967296 → answer i ≡ Ok g → In g y x → i ≡ index

module _ (f : Frame) (e : first (count_tests f) ≡ 0) where
  -- below the count that rectangle is answered, and every rectangle that is answered is below the count
  done : (i : ℕ) (r : Result Geometry Refusal) → of_placed r ≡ rectangle_answer f i → i < many f → r ≡ Ok (nth f i)
  done i r p h = rectangle_once f i r (Ok (nth f i)) p (rectangle_done f i (nth f i) e (lt-leb (many f) i h) refl)

  inside : (i : ℕ) (r : Result Geometry Refusal) (g : Geometry) → of_placed r ≡ rectangle_answer f i → r ≡ Ok g → i < many f
  inside i r g p q = go (ltb i (many f)) (test i (many f))
    where
      go : (b : Bool) → Test i (many f) b → i < many f
      go true (Test.below h) = h
      go false (Test.above h) = absurd (omega (arith, ap (λ k. k.0) (sym (ap of_placed q) ∙ p ∙ sym (rectangle_over f i e (le-leb (many f) i h)))))

  small : many f < 4294967296
  unfolding rectangles
  small = omega (arith, count_small (sub_y_of f) f.unit_size (plane_height f) (plane_width f) (passed f e).legal refl refl)

  pub covered_once : (counted : Result Counts Refusal) → of_counted counted ≡ count_answer f → (answer : ℕ → Result Geometry Refusal) → Promised f answer →
      (y x : ℕ) → y < plane_height f → x < plane_width f → Once f counted answer y x
  unfolding counts_of
  covered_once counted k answer p y x hy hx =
      let q = passed f e in
      let size = sized_of f q.no_2 q.no_5 in
      let at = index_of (sub_y_of f) f.unit_size (plane_width f) y x in
      let low = index_below size (plane_height f) (plane_width f) y x hy hx in
      let names = named size (plane_height f) (plane_width f) y x hy hx (halved (sub_x_of f) q.own_x) in
      record {
        counts = counts_of f;
        is_counted = count_once f counted (Ok (counts_of f)) k (count_done f (counts_of f) e refl);
        index = at;
        below = low;
        place = nth f at;
        answered = done at (answer at) (p at (omega (arith, low, small))) low;
        holds = covered size (plane_height f) (plane_width f) y x hy hx;
        unit_row = names.0;
        unit_col = names.1;
        stripe_start = names.2;
        stripe_end = names.3;
        only = λ i g h a r.
            let l = inside i (answer i) g (p i h) a in
            let same : nth f i ≡ g = cc (done i (answer i) (p i h) l, a) in
            once size (plane_height f) (plane_width f) y x hy hx i l (subst (λ z. In z y x) (sym same) r);
      }
