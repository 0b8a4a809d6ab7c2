-- From passed tests to what the filters ask, and from the written plane to the answer: its slice and its count.
use mathlib.Core.Path.{◌≡◌, refl, sym, ◌∙◌, ap, subst}
use mathlib.Core.Bool.{Bool, false, cond}
use mathlib.Core.List.{List}
use Prim.Native.Nat.{ℕ, ◌+◌, ◌*◌, ◌-◌, ◌/◌, ◌%◌, ◌^◌, ◌<◌, zero-le}
use native.Mathlib.Omega.{arith}
use borrow.Author.Tests.{eq-eqb, ne_eqb, le-leb}
use lib.Dec.{T, eqb}
use lib.IntN.{ℤ, pos, nat_abs}
use lib.ListN.{length, get_or}
use lib.Signed.{◌≤ℤ◌, le_z_yes}
use Rattle.laws.specs.Bounds.{Samples, sample_is}
use Rattle.laws.specs.Index.{cell_of, cell_lt, of_lt}
use Rattle.laws.specs.Lists.{plane_at, is_plane}
use Rattle.laws.specs.Tests.{or_no}
use Rattle.laws.specs.Runs.{stamp, stamp_inside, stamp_length}
use Rattle.standard.specs.declared.Frame.{Frame}
use Rattle.standard.specs.declared.Kind.TheVariants.{None}
use Rattle.standard.specs.Arithmetic.{sum}
use Rattle.standard.specs.Depths.{depth_of, largest}
use Rattle.standard.specs.Stripes.{stripe_of, unit_col_of, unit_row_of, units}
use Rattle.standard.specs.Refusals.{first, plane_tests, no4, no15, plane_height, plane_width, samples, sub_y_of}
use Rattle.standard.specs.Units.{kind_of}
use Rattle.standard.specs.Fetch.{changed, restored_at, unit_at}
use Rattle.standard.specs.Planes.{grid, tabled, restored_slice}
use Rattle.standard.specs.Calls.{shape_of, plane_answer, plane_changed, plane_out}
use Rattle.standard.proofs.Frames.{type_none}
use Rattle.standard.proofs.Refusals.{plane_table}
use Rattle.standard.proofs.Sums.{sum_same}
use Rattle.units.proofs.Depths.{bits_of}
use Rattle.units.proofs.Ranges.{samples_of}
use Rattle.frames.proofs.Legal.{halved}
use Rattle.asked.proofs.Numbers.{PlanePassed, plane_passed, counted}
use Rattle.restoration.specs.Asked.{Asked}
use Rattle.counted.specs.Whole.{Whole}
use Rattle.counted.proofs.Laws.{changed_flat}

not_negative : (n : ℕ) → pos 0 ≤ℤ pos n
not_negative n = le_z_yes (subst T (sym (le-leb 0 n zero-le)) tt)

-- a plane's sample, and the unit of frame type 0
grid_is : (s : List ℤ) (w y x : ℕ) → nat_abs (get_or s (y * w + x) (pos 0)) ≡ grid w s y x
unfolding grid
grid_is s w y x = refl

type_0 : (f : Frame) (table : List ℤ) (y x : ℕ) → f.frame_type ≡ 0 → unit_at (shape_of f table) y x ≡ None
unfolding unit_at
type_0 f table y x e = ap (λ (b : Bool). cond b None (kind_of table (unit_row_of (sub_y_of f) f.unit_size (plane_height f) (stripe_of (sub_y_of f) y) * units (plane_width f) f.unit_size + unit_col_of f.unit_size (plane_width f) x))) (eq-eqb f.frame_type 0 e)

module _ (f : Frame) (table D C : List ℤ) (out scratch : ℕ) (z : first (plane_tests f table D C out scratch) ≡ 0) where
  abbrev pub passed : PlanePassed f table D C out scratch
  passed = plane_passed f table D C out scratch z

  ranged : (s : List ℤ) → no15 f.depth s ≡ false → length s ≡ samples f → Samples (largest (depth_of f.depth)) 0 (samples f) s
  ranged s e l = subst (λ (n : ℕ). Samples n 0 (samples f) s) (ap (λ (b : ℕ). 2 ^ b - 1) (sym (bits_of f.depth passed.depth))) (subst (λ (n : ℕ). Samples (2 ^ f.depth - 1) 0 n s) l (samples_of f.depth s e))

  pub legal_cdef : Samples (largest (depth_of f.depth)) 0 (samples f) C
  legal_cdef = ranged C passed.ranged_c passed.long_c

  pub legal_deblocked : Samples (largest (depth_of f.depth)) 0 (samples f) D
  legal_deblocked = ranged D passed.ranged_d passed.long_d

  pub cdef_whole : Whole C
  cdef_whole = record { low = λ k h. legal_cdef.low k (omega arith) (omega (arith, passed.long_c)) }

  pub asked_of : (f.frame_type ≡ 0 → ⊥) → Asked f table scratch
  unfolding plane_tests
  asked_of t =
      let p = passed.typed (omega (arith, t)) in
      let none = (plane_table f table D C out scratch).complete z in
      let sides = or_no (no4 f.frame_height) (no4 f.upscaled_width) (none 3) in
      record { legal = passed.legal; plane = none 1; typed = omega (arith, t); size = p.0; counts = counted f (none 0, none 1, none 2, sides.0, sides.1) p.0; long = p.1; entries = p.2; room = p.3 }

  -- ---- frame type 0: the CDEF plane
  pub copied : (s t : List ℤ) → f.frame_type ≡ 0 → length s ≡ samples f → t ≡ stamp (λ k. get_or C (0 + k) (pos 0)) 0 (length C) s → t ≡ restored_slice (shape_of f table) D C
  unfolding restored_slice tabled
  copied s t e l w = is_plane _ (plane_width f) (plane_height f) t (pos 0) (ap length w ∙ stamp_length _ _ _ _ ∙ l) (λ y x p q.
      ap (λ (v : List ℤ). get_or v (y * plane_width f + x) (pos 0)) w
      ∙ stamped (y * plane_width f + x) (omega (arith, passed.long_c, cell_lt p q))
      ∙ sym (sample_is legal_cdef (y * plane_width f + x) (omega arith) (cell_lt p q))
      ∙ ap pos (same y x ∙ sym (type_none (shape_of f table) (halved (sub_y_of f) passed.legal.own_y) (grid (plane_width f) D) (grid (plane_width f) C) y x p q (none y x))))
    where
      stamped : (k : ℕ) → k < length C → get_or (stamp (λ k. get_or C (0 + k) (pos 0)) 0 (length C) s) k (pos 0) ≡ get_or C k (pos 0)
      stamped k h = ap (λ (i : ℕ). get_or (stamp (λ k. get_or C (0 + k) (pos 0)) 0 (length C) s) i (pos 0)) {y = 0 + k} (omega arith) ∙ stamp_inside _ 0 (length C) s k (pos 0) h (omega (arith, passed.long_c)) ∙ ap (λ (i : ℕ). get_or C i (pos 0)) (omega arith)

      same : (y x : ℕ) → nat_abs (get_or C (y * plane_width f + x) (pos 0)) ≡ grid (plane_width f) C y x
      same y x = grid_is C (plane_width f) y x

      none : (y x : ℕ) → unit_at (shape_of f table) y x ≡ None
      none y x = type_0 f table y x e

-- ---- the written plane
module _ (f : Frame) (table D C t : List ℤ) (e : t ≡ restored_slice (shape_of f table) D C) where
  written_at : (y x : ℕ) → y < plane_height f → x < plane_width f → get_or t (y * plane_width f + x) (pos 0) ≡ pos (restored_at (shape_of f table) (grid (plane_width f) D) (grid (plane_width f) C) y x)
  unfolding restored_slice tabled
  written_at y x p q = ap (λ (v : List ℤ). get_or v (y * plane_width f + x) (pos 0)) e ∙ plane_at _ (plane_width f) (plane_height f) y x (pos 0) p q

  pub written_whole : length t ≡ samples f → Whole t
  written_whole l = record {
    low = λ k h. let c : (k / plane_width f < plane_height f) × (k % plane_width f < plane_width f) = of_lt (omega (arith, l)) in
        subst (λ (v : ℤ). pos 0 ≤ℤ v) (sym (ap (λ (i : ℕ). get_or t i (pos 0)) (cell_of k (plane_width f)) ∙ written_at (k / plane_width f) (k % plane_width f) c.0 c.1)) (not_negative _);
  }

  pub written_changed : (n : ℕ) → n ≡ plane_height f * plane_width f → sum n (λ k. cond (eqb (nat_abs (get_or t k (pos 0))) (nat_abs (get_or C k (pos 0)))) 0 1) ≡ plane_changed f table D C
  unfolding plane_changed changed
  written_changed n l = ap (λ (n : ℕ). sum n (λ k. cond (eqb (nat_abs (get_or t k (pos 0))) (nat_abs (get_or C k (pos 0)))) 0 1)) l ∙ changed_flat (plane_height f) (plane_width f) t C
      ∙ sum_same (plane_height f) _ _ (λ y p. sum_same (plane_width f) _ _ (λ x q. ap (λ (v : ℕ). cond (eqb v (grid (plane_width f) C y x)) 0 1) (sym (grid_is t (plane_width f) y x) ∙ ap nat_abs (written_at y x p q))))

-- ---- the answer
module _ (f : Frame) (table D C out : List ℤ) (scratch : ℕ) where
  abbrev number : ℕ
  number = first (plane_tests f table D C (length out) scratch)

  pub answer_done : number ≡ 0 → (n : ℕ) → n ≡ plane_changed f table D C → (0, n) ≡ plane_answer f table D C (length out) scratch
  unfolding plane_answer
  answer_done e n h = rw (e, h)

  pub out_done : number ≡ 0 → restored_slice (shape_of f table) D C ≡ plane_out f table D C out scratch
  unfolding plane_out
  out_done e = rw e

  pub answer_refused : (n : ℕ) → n ≡ number → (n ≡ 0 → ⊥) → (n, 0) ≡ plane_answer f table D C (length out) scratch
  unfolding plane_answer
  answer_refused n e h = rw (sym e, ne_eqb n 0 h)

  pub out_refused : (number ≡ 0 → ⊥) → out ≡ plane_out f table D C out scratch
  unfolding plane_out
  out_refused h = rw (ne_eqb number 0 h)
