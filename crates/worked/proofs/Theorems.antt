-- What is known of a job that is not refused: no call that the program makes of it is refused, its in-place run differs nowhere, and its
-- numbers are within the bounds. And no second answer keeps the promise of `run_job`.
use mathlib.Core.Path.{◌≡◌, refl, sym, ap, ◌∙◌, subst}
use mathlib.Core.Bool.{Bool, true, false, cond, ◌&&◌}
use mathlib.Core.List.{List, ◌++◌}
use mathlib.Core.Logic.{◌⊎◌, inl, inr}
use Prim.Native.Nat.{ℕ, zero, suc, ◌+◌, ◌-◌, ◌*◌, ◌≤◌, ◌<◌}
use native.Mathlib.Omega.{arith}
use lib.Dec.{T, eqb, eqb→eq, ltb, ltb→lt}
use lib.IntN.{ℤ, pos}
use lib.ListN.{length, get_or, drop, replicate, get_or-append, get_or-replicate, length-replicate, length-append, length-drop}
use lib.Seq.{get_or-append-add, get_or-drop}
use lib.Signed.{◌≤ℤ◌, le_z_yes}
use Rattle.laws.specs.Index.{lt_or_le, mul_small}
use Rattle.laws.specs.Tests.{and_r, is_true, is_false, or_no}
use Rattle.std.specs.Prelude.{Result, Ok}
use Rattle.standard.specs.declared.JobRefusal.{JobRefusal}
use Rattle.standard.specs.declared.Report.{Report}
use Rattle.standard.specs.Answers.{of_job_ran, no_report}
use Rattle.standard.specs.Stripes.{stripes}
use Rattle.standard.specs.Refusals.{first, capture_tests, no4, plane_height, plane_tests, plane_width, scratch_need, sub_x_of, sub_y_of}
use Rattle.standard.specs.Calls.{if_done, stripe_call_number}
use Rattle.standard.specs.Job.{Job, job_of, no17, no18, form_tests, laid, job_tests, job_number, job_rows, job_call, job_stripes, in_place, job_differs, job_report, run_answer, run_rows}
use Rattle.standard.proofs.Answers.{job_ran_once}
use Rattle.standard.proofs.Refusals.{Lowest, nth, plane_table}
use Rattle.frames.proofs.Legal.{LegalFrame, halved, legal_frame}
use Rattle.standard.proofs.Job.{Bounded, bounded}
use Rattle.counted.specs.Whole.{Whole}
use Rattle.worked.proofs.Run as run
use Rattle.worked.proofs.Laws.{rows_whole, rows_long}

none_of : (a b c : Bool) (m : ℕ) → cond a 18 (cond b 17 (cond c 18 m)) ≡ 0 → (c ≡ false) × (m ≡ 0)
none_of true b c m e = absurd (omega arith)
none_of false true c m e = absurd (omega arith)
none_of false false true m e = absurd (omega arith)
none_of false false false m e = (refl, e)

-- a job that is not refused
module _ (b : List ℕ) (z : job_number b ≡ 0) where
  passes : (no18 (job_of b) ≡ false) × (first (job_tests (job_of b)) ≡ 0)
  unfolding job_number first form_tests
  passes = none_of (ltb 4160 (length b)) (no17 b) (no18 (job_of b)) (first (job_tests (job_of b))) z

  bounds : Bounded (job_of b)
  bounds = bounded (job_of b) passes.0

  -- capture and the stripes' calls are never refused after it
  pub capture_done : (n : ℕ) → let f = (job_of b).frame in n ≡ 4 * plane_width f * (stripes (sub_y_of f) (plane_height f) - 1) → first (capture_tests f (job_of b).deblocked n) ≡ 0
  capture_done n e = run.capture_done (job_of b) bounds passes.1 n e

  pub stripe_done_lem : (s : ℕ) → s < job_stripes (job_of b) → stripe_call_number (job_call (job_of b) s) (in_place (job_of b) s) ≡ 0
  stripe_done_lem s h = run.stripe_done_lem (job_of b) bounds passes.1 s h

  -- the in-place run leaves the restored rows
  pub same_rows : (in_place (job_of b) (job_stripes (job_of b))).plane ≡ job_rows (job_of b)
  same_rows = run.in_place_whole (job_of b) bounds passes.1

  pub differs_nowhere : job_differs (job_of b) ≡ 0
  differs_nowhere = run.differs_none (job_of b) bounds passes.1

-- the program's scratch is long enough for every job within the bounds: 16 is never given
module _ (j : Job) (r : Bounded j) (e : first (job_tests j) ≡ 16) where
  table : Lowest (job_tests j)
  unfolding job_tests
  table = plane_table j.frame j.units j.deblocked j.cdef (length j.cdef) 6912

  -- a test with a lower number does not hold
  lower : (k : ℕ) → (nth (job_tests j) k).0 < 16 → (nth (job_tests j) k).1 ≡ false
  lower k h = is_false (nth (job_tests j) k).1 (λ t. omega (arith, (table.lowest k (is_true (nth (job_tests j) k).1 t)).1))

  legal : LegalFrame j.frame
  unfolding job_tests plane_tests
  legal = let sides = or_no (no4 j.frame.frame_height) (no4 j.frame.upscaled_width) (lower 3 (omega arith)) in legal_frame j.frame (lower 1 (omega arith)) sides.0 sides.1

  room : scratch_need (sub_y_of j.frame) (plane_height j.frame) (plane_width j.frame) ≤ 6912
  room = run.scratched (halved (sub_y_of j.frame) legal.own_y) (plane_height j.frame) (plane_width j.frame)
      (omega (arith, run.extent_small (halved (sub_x_of j.frame) legal.own_x) j.frame.upscaled_width, r.width))

  long_enough : (t : Bool) → (t && ltb 6912 (scratch_need (sub_y_of j.frame) (plane_height j.frame) (plane_width j.frame))) ≡ true → ⊥
  long_enough t q =
      let need = scratch_need (sub_y_of j.frame) (plane_height j.frame) (plane_width j.frame) in
      omega (arith, room, ltb→lt 6912 need (and_r t (ltb 6912 need) (subst T (sym q) tt)))

  last_test : (k : ℕ) → (nth (job_tests j) k).0 ≡ 16 → (nth (job_tests j) k).1 ≡ true → ⊥
  unfolding job_tests plane_tests
  last_test zero p q = omega arith
  last_test (suc zero) p q = omega arith
  last_test (suc (suc zero)) p q = omega arith
  last_test (suc (suc (suc zero))) p q = omega arith
  last_test (suc (suc (suc (suc zero)))) p q = omega arith
  last_test (suc (suc (suc (suc (suc zero))))) p q = omega arith
  last_test (suc (suc (suc (suc (suc (suc zero)))))) p q = omega arith
  last_test (suc (suc (suc (suc (suc (suc (suc zero))))))) p q = omega arith
  last_test (suc (suc (suc (suc (suc (suc (suc (suc zero)))))))) p q = omega arith
  last_test (suc (suc (suc (suc (suc (suc (suc (suc (suc zero))))))))) p q = long_enough (ltb 0 j.frame.frame_type) q
  last_test (suc (suc (suc (suc (suc (suc (suc (suc (suc (suc k)))))))))) p q = omega arith

  pub never_16 : ⊥
  never_16 = let g = table.sound (omega (arith, e)) in last_test g.place (g.number ∙ e) g.holds

-- what is printed of it
abbrev by_number : ℕ → Report → ℕ × Report
by_number n t = (n, if_done n t no_report)

shown : (n : ℕ) (r t : Report) → (0, r) ≡ by_number n t → (n ≡ 0) × (r ≡ t)
shown zero r t q = (refl, ap (λ p. p.1) q)
shown (suc n) r t q = absurd (omega (arith, ap (λ p. p.0) q))

module _ (b : List ℕ) (r : Report) (q : of_job_ran (Ok r) ≡ run_answer b) where
  found : (job_number b ≡ 0) × (r ≡ job_report (job_of b))
  unfolding run_answer
  found = shown (job_number b) r (job_report (job_of b)) q

  pub last_number : r.differs ≡ 0
  unfolding job_report
  last_number = ap (λ t. t.differs) found.1 ∙ differs_nowhere b found.0

  pub small : (r.height * r.width ≤ 1024) × (r.height ≤ 128) × (r.width ≤ 8)
  unfolding job_report
  small =
      let l = bounds b found.0 in
      let p = (passes b found.0).1 in
      let h : r.height ≤ 128 = omega (arith, ap (λ t. t.height) found.1, run.low (job_of b) l p) in
      let w : r.width ≤ 8 = omega (arith, ap (λ t. t.width) found.1, run.narrow (job_of b) l p) in
      (mul_small 128 8 h w, h, w)

-- no sample that is printed is negative
laid_whole : (l room : List ℤ) → Whole l → Whole room → length l ≤ length room → Whole (laid l room)
unfolding laid
laid_whole l room u v h = record { low = λ k p. go k p (lt_or_le k (length l)) }
  where
    go : (k : ℕ) → k < length (l ++ drop (length l) room) → (k < length l) ⊎ (length l ≤ k) → pos 0 ≤ℤ get_or (l ++ drop (length l) room) k (pos 0)
    go k p (inl q) = subst (λ z. pos 0 ≤ℤ z) (sym (get_or-append l _ (pos 0) k q)) (u.low k q)
    go k p (inr q) = subst (λ z. pos 0 ≤ℤ z)
        (sym (ap (λ i. get_or (l ++ drop (length l) room) i (pos 0)) {x = k} {y = length l + (k - length l)} (omega arith) ∙ get_or-append-add l (drop (length l) room) (k - length l) (pos 0) ∙ get_or-drop (length l) room (k - length l) (pos 0) ∙ ap (λ i. get_or room i (pos 0)) (omega arith)))
        (v.low k (omega (arith, length-append l (drop (length l) room), length-drop (length l) room)))

pub zeros_whole : (n : ℕ) → Whole (replicate n (pos 0))
zeros_whole n = record { low = λ k p. subst (λ z. pos 0 ≤ℤ z) (sym (get_or-replicate n k (pos 0) (pos 0) (omega (arith, length-replicate n (pos 0))))) (le_z_yes tt) }

pub printed_whole : (b : List ℕ) (room : List ℤ) → Whole room → length room ≡ 1024 → Whole (run_rows b room)
unfolding run_rows
printed_whole b room v l = go (eqb (job_number b) 0) (eqb→eq (job_number b) 0)
  where
    go : (t : Bool) → (T t → job_number b ≡ 0) → Whole (cond t (laid (job_rows (job_of b)) room) room)
    go true z = let p = (passes b (z tt)).1 in let r = bounds b (z tt) in
        laid_whole (job_rows (job_of b)) room (rows_whole (job_of b) r p (job_rows (job_of b)) refl (rows_long (job_of b) p ∙ (run.passed (job_of b) r p).long_c)) v (omega (arith, l, rows_long (job_of b) p, r.cdef))
    go false z = v

-- and the room keeps its length
pub printed_long : (b : List ℕ) (room : List ℤ) → length room ≡ 1024 → length (run_rows b room) ≡ 1024
unfolding run_rows laid
printed_long b room l = go (eqb (job_number b) 0) (eqb→eq (job_number b) 0)
  where
    go : (t : Bool) → (T t → job_number b ≡ 0) → length (cond t (job_rows (job_of b) ++ drop (length (job_rows (job_of b))) room) room) ≡ 1024
    go true z = length-append (job_rows (job_of b)) _ ∙ omega (arith, length-drop (length (job_rows (job_of b))) room, l, rows_long (job_of b) (passes b (z tt)).1, (bounds b (z tt)).cdef)
    go false z = l

-- no second answer
pub run_once : (b : List ℕ) (r s : Result Report JobRefusal) → of_job_ran r ≡ run_answer b → of_job_ran s ≡ run_answer b → r ≡ s
run_once b r s p q = job_ran_once r s (p ∙ sym q)
