-- The number that each test of whole-plane restore gives, where earlier ones have answered; and what is known where none gives one.
use mathlib.Core.Path.{◌≡◌, sym, ◌∙◌, ap}
use mathlib.Core.Bool.{Bool, true, false, not, ◌&&◌, ◌||◌}
use mathlib.Core.List.{List, [], ◌∷◌}
use Prim.Native.Nat.{ℕ, ◌*◌, ◌<◌, ◌≤◌}
use native.Mathlib.Omega.{arith}
use borrow.Author.Tests.{eqb-true, not-false, lt-ltb, le-ltb, ltb-false}
use lib.Dec.{eqb, ltb}
use lib.IntN.{ℤ}
use lib.ListN.{length}
use Rattle.laws.specs.Tests.{and_l, and_r, not_no, is_true, or_no}
use Rattle.standard.specs.declared.Frame.{Frame}
use Rattle.standard.specs.Stripes.{units}
use Rattle.standard.specs.Refusals.{first, frame2, frame4, no1, no2, no3, no4, no10, no11, no15, size5, count_tests, plane_tests, sub_y_of, plane_height, plane_width, samples, scratch_need}
use Rattle.standard.proofs.Refusals.{plane_table, first_past}
use Rattle.frames.proofs.Legal.{LegalFrame, given_between, legal_frame}
use Rattle.frames.specs.declared.plane.Plane.{Plane}
use Rattle.geometry.proofs.Laws.{units_small}
use Rattle.geometry.proofs.Tests as counts

-- ---- the conditions that the functions answer
abbrev pub misshapen : Frame → ℕ → ℕ → ℕ → Bool
misshapen f d c out = not (eqb d (samples f) && eqb c (samples f) && eqb out (samples f))

abbrev pub short : Frame → ℕ → Bool
short f scratch = ltb scratch (scratch_need (sub_y_of f) (plane_height f) (plane_width f))

pub or_first : (a b : Bool) → a ≡ true → true ≡ (a || b)
or_first a b e = rw e

pub or_second : (a b : Bool) → a ≡ false → b ≡ (a || b)
or_second a b e = rw e

-- ---- the number that each test gives
-- 1 to 4 give none
abbrev pub Framed : Frame → Type 0
Framed f = (no1 f.depth ≡ false) × (no2 f.plane f.sub_x f.sub_y ≡ false) × (no3 f.frame_type ≡ false) × (no4 f.frame_height ≡ false) × (no4 f.upscaled_width ≡ false)

-- a plane has what 2 and 4 ask for
pub framed : (p : Plane) → no1 p.frame.depth ≡ false → no3 p.frame.frame_type ≡ false → Framed p.frame
framed p e1 e3 = (e1, p.plane, e3, p.high, p.wide)

pub plain_framed : (p : Plane) → no1 p.frame.depth ≡ false → p.frame.frame_type ≡ 0 → Framed p.frame
unfolding no3
plain_framed p e1 z = framed p e1 (le-ltb 3 p.frame.frame_type (omega (arith, z)))

module _ (f : Frame) (table D C : List ℤ) (out scratch : ℕ) where
  abbrev number : ℕ
  number = first (plane_tests f table D C out scratch)

  pub gives_1 : no1 f.depth ≡ true → 1 ≡ number
  unfolding plane_tests first
  gives_1 e = rw e

  module _ (e1 : no1 f.depth ≡ false) where
    pub gives_2 : no2 f.plane f.sub_x f.sub_y ≡ true → 2 ≡ number
    unfolding plane_tests first
    gives_2 e = rw (e1, e)

    module _ (e2 : no2 f.plane f.sub_x f.sub_y ≡ false) where
      pub gives_3 : no3 f.frame_type ≡ true → 3 ≡ number
      unfolding plane_tests first
      gives_3 e = rw (e1, e2, e)

    pub gives_4 : no3 f.frame_type ≡ false → (n : ℕ) → 1 ≤ n → n ≡ first (frame2 f ∷ frame4 f ∷ []) → n ≡ number
    unfolding plane_tests
    gives_4 e3 n p e = given_between f (no3 f.frame_type) n _ e3 p e ∙ sym (first_past 1 (no1 f.depth) _ e1)

  -- frame type 0: 7 and 15 alone
  module _ (p : Framed f) (z : f.frame_type ≡ 0) where
    pub plain_7 : misshapen f (length D) (length C) out ≡ true → 7 ≡ number
    unfolding plane_tests first
    plain_7 e = rw (p.0, p.1, p.2, p.3, p.4, le-ltb 0 f.frame_type (omega (arith, z)), e)

    module _ (e7 : misshapen f (length D) (length C) out ≡ false) where
      pub plain_15 : (no15 f.depth D || no15 f.depth C) ≡ true → 15 ≡ number
      unfolding plane_tests first
      plain_15 e = rw (p.0, p.1, p.2, p.3, p.4, le-ltb 0 f.frame_type (omega (arith, z)), e7, e)

      pub plain_0 : (no15 f.depth D || no15 f.depth C) ≡ false → 0 ≡ number
      unfolding plane_tests first
      plain_0 e = rw (p.0, p.1, p.2, p.3, p.4, le-ltb 0 f.frame_type (omega (arith, z)), e7, e)

  -- the other types: 5, 7, 10, 11, 15, 16
  module _ (p : Framed f) (t : 0 < f.frame_type) where
    pub gives_5 : size5 f ≡ true → 5 ≡ number
    unfolding plane_tests first
    gives_5 e = rw (p.0, p.1, p.2, p.3, p.4, lt-ltb 0 f.frame_type t, e)

    module _ (e5 : size5 f ≡ false) where
      pub gives_7 : misshapen f (length D) (length C) out ≡ true → 7 ≡ number
      unfolding plane_tests first
      gives_7 e = rw (p.0, p.1, p.2, p.3, p.4, lt-ltb 0 f.frame_type t, e5, e)

      module _ (e7 : misshapen f (length D) (length C) out ≡ false) where
        pub gives_10 : no10 f.unit_size (plane_height f) (plane_width f) (length table) ≡ true → 10 ≡ number
        unfolding plane_tests first
        gives_10 e = rw (p.0, p.1, p.2, p.3, p.4, lt-ltb 0 f.frame_type t, e5, e7, e)

        module _ (e10 : no10 f.unit_size (plane_height f) (plane_width f) (length table) ≡ false) where
          pub gives_11 : no11 f.plane table ≡ true → 11 ≡ number
          unfolding plane_tests first
          gives_11 e = rw (p.0, p.1, p.2, p.3, p.4, lt-ltb 0 f.frame_type t, e5, e7, e10, e)

          module _ (e11 : no11 f.plane table ≡ false) where
            pub gives_15 : (no15 f.depth D || no15 f.depth C) ≡ true → 15 ≡ number
            unfolding plane_tests first
            gives_15 e = rw (p.0, p.1, p.2, p.3, p.4, lt-ltb 0 f.frame_type t, e5, e7, e10, e11, e)

            module _ (e15 : (no15 f.depth D || no15 f.depth C) ≡ false) where
              pub gives_16 : short f scratch ≡ true → 16 ≡ number
              unfolding plane_tests first
              gives_16 e = rw (p.0, p.1, p.2, p.3, p.4, lt-ltb 0 f.frame_type t, e5, e7, e10, e11, e15, e)

              pub gives_0 : short f scratch ≡ false → 0 ≡ number
              unfolding plane_tests first
              gives_0 e = rw (p.0, p.1, p.2, p.3, p.4, lt-ltb 0 f.frame_type t, e5, e7, e10, e11, e15, e)

-- the frame's counts are asked for only where they are known
pub counted : (f : Frame) → Framed f → size5 f ≡ false → first (count_tests f) ≡ 0
counted f p e = sym (counts.gives_0 f p.1 p.3 p.4 e)

pub unit_counts : (f : Frame) → first (count_tests f) ≡ 0 → (units (plane_height f) f.unit_size ≤ 65535) × (units (plane_width f) f.unit_size ≤ 65535)
unit_counts f e =
    let l = (counts.passed f e).legal in
    (units_small (plane_height f) f.unit_size l.small (omega (arith, l.high)), units_small (plane_width f) f.unit_size l.small (omega (arith, l.wide)))

-- ---- where no number is given
pub record PlanePassed (f : Frame) (table D C : List ℤ) (out scratch : ℕ) : Type 0 where
  pub legal : LegalFrame f
  pub depth : no1 f.depth ≡ false
  pub long_d : length D ≡ samples f
  pub long_c : length C ≡ samples f
  pub long_out : out ≡ samples f
  pub ranged_d : no15 f.depth D ≡ false
  pub ranged_c : no15 f.depth C ≡ false
  pub typed : 0 < f.frame_type →
      (size5 f ≡ false) × (length table ≡ 10 * units (plane_height f) f.unit_size * units (plane_width f) f.unit_size) × (no11 f.plane table ≡ false)
      × (scratch_need (sub_y_of f) (plane_height f) (plane_width f) ≤ scratch)

-- three equalities that one test asks for
all_three : (a b c n : ℕ) → not (eqb a n && eqb b n && eqb c n) ≡ false → (a ≡ n) × (b ≡ n) × (c ≡ n)
all_three a b c n e =
    let t = not_no (eqb a n && eqb b n && eqb c n) e in
    let l = and_l (eqb a n && eqb b n) (eqb c n) t in
    (eqb-true a n (is_true _ (and_l (eqb a n) (eqb b n) l)), eqb-true b n (is_true _ (and_r (eqb a n) (eqb b n) l)), eqb-true c n (is_true _ (and_r (eqb a n && eqb b n) (eqb c n) t)))

-- a test that frame type 0 does not give, at another type
of_type : (t : ℕ) (b : Bool) → 0 < t → (ltb 0 t && b) ≡ false → b ≡ false
of_type t b h e = sym (ap (λ (a : Bool). a && b) (lt-ltb 0 t h)) ∙ e

pub plane_passed : (f : Frame) (table D C : List ℤ) (out scratch : ℕ) → first (plane_tests f table D C out scratch) ≡ 0 → PlanePassed f table D C out scratch
unfolding plane_tests no10
plane_passed f table D C out scratch e =
    let none = (plane_table f table D C out scratch).complete e in
    let sides = or_no (no4 f.frame_height) (no4 f.upscaled_width) (none 3) in
    let long = all_three (length D) (length C) out (samples f) (none 5) in
    let ranged = or_no (no15 f.depth D) (no15 f.depth C) (none 8) in
    let count = 10 * units (plane_height f) f.unit_size * units (plane_width f) f.unit_size in
    let need = scratch_need (sub_y_of f) (plane_height f) (plane_width f) in
    record {
      legal = legal_frame f (none 1) sides.0 sides.1;
      depth = none 0;
      long_d = long.0;
      long_c = long.1;
      long_out = long.2;
      ranged_d = ranged.0;
      ranged_c = ranged.1;
      typed = λ h. (
        of_type f.frame_type (size5 f) h (none 4),
        eqb-true (length table) count (not-false (eqb (length table) count) (of_type f.frame_type (not (eqb (length table) count)) h (none 6))),
        of_type f.frame_type (no11 f.plane table) h (none 7),
        ltb-false scratch need (of_type f.frame_type (ltb scratch need) h (none 9)),
      );
    }
