-- The number that each test of capture gives, where earlier ones have answered; and what is known where none gives one.
use mathlib.Core.Path.{◌≡◌, sym, ◌∙◌}
use mathlib.Core.Bool.{true, false}
use mathlib.Core.List.{List, [], ◌∷◌}
use Prim.Native.Nat.{ℕ, ◌*◌, ◌-◌, ◌≤◌}
use native.Mathlib.Omega.{arith}
use borrow.Author.Tests.{eq-eqb, ne_eqb, eqb-true, not-false}
use lib.Dec.{eqb}
use lib.IntN.{ℤ}
use lib.ListN.{length}
use Rattle.laws.specs.Tests.{or_no}
use Rattle.standard.specs.declared.Frame.{Frame}
use Rattle.standard.specs.declared.Refusal.{Refusal}
use Rattle.standard.specs.Answers.{refusal_number}
use Rattle.standard.proofs.Answers.{refusal_back}
use Rattle.standard.specs.Stripes.{stripes}
use Rattle.standard.specs.Planes.{captured_slice}
use Rattle.standard.specs.Calls.{capture_edges}
use Rattle.standard.specs.Refusals.{first, frame2, frame4, no1, no2, no4, no9, no15, capture_tests, sub_y_of, plane_height, plane_width, samples}
use Rattle.standard.proofs.Refusals.{capture_table, first_past}
use Rattle.frames.proofs.Legal.{LegalFrame, given_first, legal_frame}

module _ (f : Frame) (D : List ℤ) (edge : ℕ) where
  pub gives_1 : no1 f.depth ≡ true → 1 ≡ first (capture_tests f D edge)
  unfolding capture_tests first
  gives_1 e = rw e

  module _ (e1 : no1 f.depth ≡ false) where
    pub gives_2_4 : (n : ℕ) → 1 ≤ n → n ≡ first (frame2 f ∷ frame4 f ∷ []) → n ≡ first (capture_tests f D edge)
    unfolding capture_tests
    gives_2_4 n p e = given_first f n _ p e ∙ sym (first_past 1 (no1 f.depth) _ e1)

    module _ (e2 : no2 f.plane f.sub_x f.sub_y ≡ false) where
      module _ (eh : no4 f.frame_height ≡ false) where
        module _ (ew : no4 f.upscaled_width ≡ false) where
          pub gives_7 : (length D ≡ samples f → ⊥) → 7 ≡ first (capture_tests f D edge)
          unfolding capture_tests first
          gives_7 e = rw (e1, e2, eh, ew, ne_eqb (length D) (samples f) e)

          module _ (e7 : length D ≡ samples f) where
            pub gives_9 : (edge ≡ 4 * plane_width f * (stripes (sub_y_of f) (plane_height f) - 1) → ⊥) → 9 ≡ first (capture_tests f D edge)
            unfolding capture_tests first no9
            gives_9 e = rw (e1, e2, eh, ew, eq-eqb (length D) (samples f) e7, ne_eqb edge (4 * plane_width f * (stripes (sub_y_of f) (plane_height f) - 1)) e)

            module _ (e9 : edge ≡ 4 * plane_width f * (stripes (sub_y_of f) (plane_height f) - 1)) where
              pub gives_15 : no15 f.depth D ≡ true → 15 ≡ first (capture_tests f D edge)
              unfolding capture_tests first no9
              gives_15 e = rw (e1, e2, eh, ew, eq-eqb (length D) (samples f) e7, eq-eqb edge (4 * plane_width f * (stripes (sub_y_of f) (plane_height f) - 1)) e9, e)

              pub gives_0 : no15 f.depth D ≡ false → 0 ≡ first (capture_tests f D edge)
              unfolding capture_tests first no9
              gives_0 e = rw (e1, e2, eh, ew, eq-eqb (length D) (samples f) e7, eq-eqb edge (4 * plane_width f * (stripes (sub_y_of f) (plane_height f) - 1)) e9, e)

-- ---- where no number is given
pub record Passed (f : Frame) (D : List ℤ) (edge : ℕ) : Type 0 where
  pub legal : LegalFrame f
  pub long : length D ≡ samples f
  pub room : edge ≡ 4 * plane_width f * (stripes (sub_y_of f) (plane_height f) - 1)

pub passed : (f : Frame) (D : List ℤ) (edge : ℕ) → first (capture_tests f D edge) ≡ 0 → Passed f D edge
unfolding capture_tests no9
passed f D edge e =
    let none = (capture_table f D edge).complete e in
    let sides = or_no (no4 f.frame_height) (no4 f.upscaled_width) (none 2) in
    record {
      legal = legal_frame f (none 1) sides.0 sides.1;
      long = eqb-true (length D) (samples f) (not-false (eqb (length D) (samples f)) (none 3));
      room = eqb-true edge (4 * plane_width f * (stripes (sub_y_of f) (plane_height f) - 1)) (not-false (eqb edge (4 * plane_width f * (stripes (sub_y_of f) (plane_height f) - 1))) (none 4));
    }

-- ---- the slice
pub captured_done : (f : Frame) (D E : List ℤ) → first (capture_tests f D (length E)) ≡ 0 → captured_slice (sub_y_of f) (plane_height f) (plane_width f) D ≡ capture_edges f D E
unfolding capture_edges
captured_done f D E e = rw e

pub captured_refused : (f : Frame) (D E : List ℤ) → (first (capture_tests f D (length E)) ≡ 0 → ⊥) → E ≡ capture_edges f D E
unfolding capture_edges
captured_refused f D E e = rw (ne_eqb (first (capture_tests f D (length E))) 0 e)

pub refused : (a : Refusal) (n : ℕ) → refusal_number a ≡ n → n ≡ 0 → ⊥
refused a n e z = omega (arith, (refusal_back a).1)
