-- What is known of a stripe's call where no number is given.
use mathlib.Core.Path.{◌≡◌, sym, ◌∙◌, ap}
use mathlib.Core.Bool.{Bool, false, not, ◌&&◌, ◌||◌}
use mathlib.Core.List.{List}
use Prim.Native.Nat.{ℕ, ◌*◌, ◌-◌, ◌<◌, ◌≤◌}
use borrow.Author.Tests.{eqb-true, leb-false, lt-ltb, ltb-false, not-false}
use lib.Dec.{eqb, ltb}
use lib.IntN.{ℤ}
use lib.ListN.{length}
use Rattle.laws.specs.Tests.{or_no}
use Rattle.standard.specs.declared.Frame.{Frame}
use Rattle.standard.specs.Stripes.{stripes, units}
use Rattle.standard.specs.Planes.{above, below}
use Rattle.standard.specs.Refusals.{copy_need, first, no4, no10, no11, no15, plane_height, plane_width, samples, scratch_need, size5, sub_y_of}
use Rattle.standard.specs.Calls.{own_rows}
use Rattle.standard.proofs.Refusals.{nth, stripe_table}
use Rattle.stripe_tests.specs.Parts.{Numbered, all_tests, all_tests_lem}
use Rattle.stripe_tests.proofs.Laws.{edge_room, marks_long}

pub record StripePassed (f : Frame) (s : ℕ) (table E P : List ℤ) (scratch copy : ℕ) : Type 0 where
  pub numbered : Numbered f
  pub there : s < stripes (sub_y_of f) (plane_height f)
  pub long : length P ≡ samples f
  pub edges : length E ≡ 4 * plane_width f * (stripes (sub_y_of f) (plane_height f) - 1)
  pub own : no15 f.depth (own_rows f P s) ≡ false
  pub over : no15 f.depth (above (sub_y_of f) (plane_height f) (plane_width f) E s) ≡ false
  pub under : no15 f.depth (below (sub_y_of f) (plane_height f) (plane_width f) E s) ≡ false
  pub typed : 0 < f.frame_type →
      (size5 f ≡ false) × (length table ≡ 10 * units (plane_height f) f.unit_size * units (plane_width f) f.unit_size) × (no11 f.plane table ≡ false)
      × (scratch_need (sub_y_of f) (plane_height f) (plane_width f) ≤ scratch) × (copy_need (sub_y_of f) (plane_height f) (plane_width f) ≤ copy)

-- a test that frame type 0 does not give, at another type
of_type : (t : ℕ) (b : Bool) → 0 < t → (ltb 0 t && b) ≡ false → b ≡ false
of_type t b h e = sym (ap (λ (a : Bool). a && b) (lt-ltb 0 t h)) ∙ e

module _ (f : Frame) (s : ℕ) (table E P : List ℤ) (marks : List ℕ) (scratch copy : ℕ) (z : first (all_tests f s E P scratch copy table marks) ≡ 0) where
  free : (k : ℕ) → (nth (all_tests f s E P scratch copy table marks) k).1 ≡ false
  free k = ap (λ (l : List (ℕ × Bool)). (nth l k).1) (all_tests_lem f s E P scratch copy table marks)
      ∙ (stripe_table f s table (length E) (length P) marks (own_rows f P s) (above (sub_y_of f) (plane_height f) (plane_width f) E s) (below (sub_y_of f) (plane_height f) (plane_width f) E s) scratch copy).complete
      (ap first (sym (all_tests_lem f s E P scratch copy table marks)) ∙ z) k

  pub one_mark_each : length marks ≡ stripes (sub_y_of f) (plane_height f)
  one_mark_each = marks_long _ _ (free 9)

  pub stripe_passed : StripePassed f s table E P scratch copy
  unfolding no10
  stripe_passed =
      let sides = or_no (no4 f.frame_height) (no4 f.upscaled_width) (free 3) in
      let count = 10 * units (plane_height f) f.unit_size * units (plane_width f) f.unit_size in
      let need = scratch_need (sub_y_of f) (plane_height f) (plane_width f) in
      let room = copy_need (sub_y_of f) (plane_height f) (plane_width f) in
      let a = no15 f.depth (own_rows f P s) in
      let b = no15 f.depth (above (sub_y_of f) (plane_height f) (plane_width f) E s) in
      let c = no15 f.depth (below (sub_y_of f) (plane_height f) (plane_width f) E s) in
      let ranged = or_no (a || b) c (free 12) in
      record {
        numbered = record { depth = free 0; plane = free 1; high = sides.0; wide = sides.1 };
        there = leb-false (stripes (sub_y_of f) (plane_height f)) s (free 10);
        long = eqb-true (length P) (samples f) (not-false (eqb (length P) (samples f)) (free 5));
        edges = edge_room f (length E) (free 6);
        own = (or_no a b ranged.0).0;
        over = (or_no a b ranged.0).1;
        under = ranged.1;
        typed = λ h. let rooms = or_no (ltb scratch need) (ltb copy room) (of_type f.frame_type (ltb scratch need || ltb copy room) h (free 13)) in (
          of_type f.frame_type (size5 f) h (free 4),
          eqb-true (length table) count (not-false (eqb (length table) count) (of_type f.frame_type (not (eqb (length table) count)) h (free 7))),
          of_type f.frame_type (no11 f.plane table) h (free 8),
          ltb-false scratch need rooms.0,
          ltb-false copy room rooms.1,
        );
      }
