-- The tests of one stripe in place, in parts that follow one another: each part goes on with the next, so the first is `stripe_tests` itself.
use Rattle.std.specs.Prelude.{◌≡◌, Bool, false, not, ◌||◌, List, [], ◌∷◌, ℕ, ℤ, length, get_or, leb, eqb, ltb}
use Rattle.std.proofs.Math.Path.{refl}
use Rattle.standard.specs.declared.Frame.{Frame}
use Rattle.standard.specs.Stripes.{stripes}
use Rattle.standard.specs.Planes.{above, below}
use Rattle.standard.specs.Refusals.{sub_y_of, plane_height, plane_width, samples, no1, no2, no3, no4, no9, no10, no11, no12, no15, scratch_need, copy_need, typed, frame2, frame4, size5, stripe_tests}
use Rattle.standard.specs.Calls.{own_rows}

-- the frame's numbers, where 1, 2 and 4 are not given
pub record Numbered (f : Frame) : Type 0 where
  pub depth : no1 f.depth ≡ false
  pub plane : no2 f.plane f.sub_x f.sub_y ≡ false
  pub high : no4 f.frame_height ≡ false
  pub wide : no4 f.upscaled_width ≡ false

-- a sample that the stripe reads is out of range
abbrev pub out_of_range : Frame → ℕ → List ℤ → List ℤ → Bool
out_of_range f s E P =
    no15 f.depth (own_rows f P s) || no15 f.depth (above (sub_y_of f) (plane_height f) (plane_width f) E s) || no15 f.depth (below (sub_y_of f) (plane_height f) (plane_width f) E s)

abbrev pub too_short : Frame → ℕ → ℕ → Bool
too_short f scratch copy = typed f (ltb scratch (scratch_need (sub_y_of f) (plane_height f) (plane_width f)) || ltb copy (copy_need (sub_y_of f) (plane_height f) (plane_width f)))

-- of stripe s of the plane P beside the edge rows E
module _ (f : Frame) (s : ℕ) (E P : List ℤ) (scratch copy : ℕ) where
  abbrev pub last_tests : List (ℕ × Bool)
  last_tests = (15, out_of_range f s E P) ∷ (16, too_short f scratch copy) ∷ []

  abbrev pub mark_tests : List ℕ → List (ℕ × Bool)
  mark_tests marks =
      (12, no12 (stripes (sub_y_of f) (plane_height f)) marks) ∷ (13, leb (stripes (sub_y_of f) (plane_height f)) s) ∷ (14, eqb (get_or marks s 0) 1) ∷ last_tests

  abbrev pub slice_tests : List ℤ → List ℕ → List (ℕ × Bool)
  slice_tests table marks =
      (7, not (eqb (length P) (samples f))) ∷ (9, no9 (sub_y_of f) (plane_height f) (plane_width f) (length E)) ∷
      (10, typed f (no10 f.unit_size (plane_height f) (plane_width f) (length table))) ∷ (11, typed f (no11 f.plane table)) ∷ mark_tests marks

  abbrev pub all_tests : List ℤ → List ℕ → List (ℕ × Bool)
  all_tests table marks = (1, no1 f.depth) ∷ frame2 f ∷ (3, no3 f.frame_type) ∷ frame4 f ∷ (5, typed f (size5 f)) ∷ slice_tests table marks

  pub all_tests_lem : (table : List ℤ) (marks : List ℕ) →
      all_tests table marks ≡ stripe_tests f s table (length E) (length P) marks (own_rows f P s) (above (sub_y_of f) (plane_height f) (plane_width f) E s) (below (sub_y_of f) (plane_height f) (plane_width f) E s) scratch copy
  unfolding stripe_tests
  all_tests_lem table marks = refl
