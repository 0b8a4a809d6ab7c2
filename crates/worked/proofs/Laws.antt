-- From what the calls of a job promise to what is answered of it.
use mathlib.Core.Path.{◌≡◌, refl, sym, ap, ◌∙◌, subst}
use mathlib.Core.Bool.{Bool, true, false, cond}
use mathlib.Core.List.{List, [], ◌∷◌, ◌++◌}
use Prim.Native.Nat.{ℕ, zero, suc, ◌-◌, ◌≤◌}
use native.Mathlib.Omega.{arith}
use borrow.Author.Tests.{ne_eqb}
use lib.Dec.{T, eqb, ltb, eqb→eq}
use lib.IntN.{ℤ, pos, nat_abs}
use lib.ListN.{length, get_or, take, drop, replicate, take-append-drop, length-append, length-drop}
use lib.Seq.{take-append_seam}
use borrow.Rule.Slice.PartMut.{post_of}
use Rattle.laws.specs.Congruence.{ap2, ap4}
use Rattle.laws.specs.Lists.{length_listing, plane_length}
use Rattle.standard.specs.declared.Frame.{Frame}
use Rattle.standard.specs.declared.Report.{Report}
use Rattle.standard.specs.declared.Sections.{Sections}
use Rattle.standard.specs.Answers.{no_report, no_sections}
use Rattle.standard.specs.Arithmetic.{sum}
use Rattle.standard.specs.Fetch.{changed}
use Rattle.standard.specs.Planes.{grid, tabled, restored_slice}
use Rattle.standard.specs.Refusals.{first, plane_tests, plane_height, plane_width, samples}
use Rattle.standard.specs.Calls.{if_done, shape_of, plane_answer, plane_changed, plane_out}
use Rattle.standard.specs.Job.{Job, job_of, no17, no18, form_tests, sections_of, open_answer, laid, open_room, job_tests, job_number, job_rows, job_stripes, in_place, job_differs, job_report, run_answer, run_rows}
use Rattle.standard.proofs.Job.{Bounded, bounded}
use Rattle.standard.proofs.Job as job
use Rattle.job.proofs.Laws.{Found}
use Rattle.asked.proofs.Numbers.{plane_passed}
use Rattle.counted.specs.Whole.{Whole}
use Rattle.counted.proofs.Laws.{changed_flat}
use Rattle.restoration.proofs.Answers.{written_whole}
use Rattle.worked.specs.Work.{job_with, work_answer, work_rows, report_of, differing}
use Rattle.worked.proofs.Run.{in_place_whole}

-- ---- marks of one to three stripes
pub clear_marks : (n : ℕ) → n ≤ 3 → take {A = ℕ} (n - 0) (0 ∷ 0 ∷ 0 ∷ []) ≡ replicate n 0
clear_marks zero h = refl
clear_marks (suc zero) h = refl
clear_marks (suc (suc zero)) h = refl
clear_marks (suc (suc (suc zero))) h = refl
clear_marks (suc (suc (suc (suc n)))) h = absurd (omega arith)

-- ---- the whole-plane call
module _ (f : Frame) (table D C : List ℤ) (out scratch : ℕ) where
  abbrev number : ℕ
  number = first (plane_tests f table D C out scratch)

  pub plane_done : (n : ℕ) → (0, n) ≡ plane_answer f table D C out scratch → (number ≡ 0) × (n ≡ plane_changed f table D C)
  unfolding plane_answer
  plane_done n q = let e = sym (ap (λ p. p.0) q) in (e, ap (λ p. p.1) q ∙ ap (λ k. if_done k (plane_changed f table D C) 0) e)

  pub plane_refused : (n : ℕ) → (n, 0) ≡ plane_answer f table D C out scratch → n ≡ number
  unfolding plane_answer
  plane_refused n q = ap (λ p. p.0) q

  -- with the program's scratch, and out as long as the CDEF plane
  module _ (e : out ≡ length C) (s : scratch ≡ 6912) where
    pub same_number : number ≡ first (job_tests (job_with f table D C))
    unfolding job_tests
    same_number = ap2 (λ o k. first (plane_tests f table D C o k)) e s

pub same_rows : (f : Frame) (table D C out t : List ℤ) (scratch : ℕ) → length out ≡ length C → scratch ≡ 6912 → t ≡ plane_out f table D C out scratch → t ≡ work_rows (job_with f table D C) out
unfolding plane_out work_rows job_tests job_rows
same_rows f table D C out t scratch e s q = q ∙ ap2 (λ o k. if_done (first (plane_tests f table D C o k)) (restored_slice (shape_of f table) D C) out) e s

pub refused_answer : (j : Job) (n : ℕ) → 1 ≤ n → n ≡ first (job_tests j) → (n, no_report) ≡ work_answer j
unfolding work_answer
refused_answer j n h e = rw (← e, ne_eqb n 0 (λ z. omega arith))

abbrev by_number : ℕ → Report → ℕ × Report
by_number n t = (n, if_done n t no_report)

-- ---- a job that is done
module _ (j : Job) (r : Bounded j) (z : first (job_tests j) ≡ 0) where
  abbrev f : Frame
  f = j.frame

  rows_done : (out : List ℤ) → work_rows j out ≡ job_rows j
  unfolding work_rows
  rows_done out = rw z

  pub rows_whole : (t : List ℤ) → t ≡ job_rows j → length t ≡ samples f → Whole t
  unfolding job_rows
  rows_whole t e l = written_whole f j.units j.deblocked j.cdef t e l

  pub out_whole : (out t : List ℤ) → t ≡ work_rows j out → length t ≡ samples f → Whole t
  out_whole out t e l = rows_whole t (e ∙ rows_done out) l

  pub plane_whole : (t : List ℤ) → t ≡ (in_place j (job_stripes j)).plane → length t ≡ samples f → Whole t
  plane_whole t e l = rows_whole t (e ∙ in_place_whole j r z) l

  counted_differs : (out t P : List ℤ) → t ≡ work_rows j out → P ≡ (in_place j (job_stripes j)).plane → length P ≡ samples f → differing t P ≡ job_differs j
  unfolding job_differs differing
  counted_differs out t P e p l =
      ap (λ m. sum m (λ i. cond (eqb (nat_abs (get_or t i (pos 0))) (nat_abs (get_or P i (pos 0)))) 0 1)) l ∙ changed_flat (plane_height f) (plane_width f) t P
      ∙ ap2 (λ a b. changed (plane_height f) (plane_width f) (grid (plane_width f) a) (grid (plane_width f) b)) (e ∙ rows_done out) p

  pub done_answer : (s : Report) (c : ℕ) (out t P : List ℤ) → s ≡ report_of f c (differing t P) → c ≡ plane_changed f j.units j.deblocked j.cdef →
      t ≡ work_rows j out → P ≡ (in_place j (job_stripes j)).plane → length P ≡ samples f → (0, s) ≡ work_answer j
  unfolding work_answer report_of job_report job_stripes
  done_answer s c out t P q p e i l = ap (by_number 0) (q ∙ ap2 (report_of f) p (counted_differs out t P e i l)) ∙ sym (ap (λ k. by_number k (job_report j)) z)

-- ---- the job that was read
-- room keeps its length
pub opened_long : (b : List ℕ) (l room t : List ℤ) → t ≡ open_room b l room → length l ≤ length room → length t ≡ length room
unfolding open_room laid
opened_long b l room t q h = ap length q ∙ go (eqb (first (form_tests b)) 0)
  where
    go : (e : Bool) → length (cond e (l ++ drop (length l) room) room) ≡ length room
    go true = length-append l (drop (length l) room) ∙ omega (arith, length-drop (length l) room)
    go false = refl

opened_part : (b : List ℕ) (l room t : List ℤ) (n : ℕ) → first (form_tests b) ≡ 0 → t ≡ open_room b l room → n ≡ length l → take (n - 0) t ≡ l
unfolding open_room laid
opened_part b l room t n e q c =
    ap (take (n - 0)) (q ∙ ap (λ k. if_done k (laid l room) room) e) ∙ ap (λ m. take m (l ++ drop (length l) room)) {x = n - 0} {y = length l} (omega arith) ∙ take-append_seam l (drop (length l) room)

module _ (b : List ℕ) (s : Sections) (f : Found b s) where
  pub units_count : s.units ≡ length (job_of b).units
  unfolding job_of sections_of
  units_count = ap (λ t. t.units) f.same ∙ sym (length_listing _ _)

  pub deblocked_count : s.deblocked ≡ length (job_of b).deblocked
  unfolding job_of sections_of
  deblocked_count = ap (λ t. t.deblocked) f.same ∙ sym (length_listing _ _)

  pub cdef_count : s.cdef ≡ length (job_of b).cdef
  unfolding job_of sections_of
  cdef_count = ap (λ t. t.cdef) f.same ∙ sym (length_listing _ _)

  -- the sections, lent again, are the job's
  pub job_lent : (ru rd rc u d c : List ℤ) → u ≡ open_room b (job_of b).units ru → d ≡ open_room b (job_of b).deblocked rd → c ≡ open_room b (job_of b).cdef rc →
      job_with s.frame (take (s.units - 0) u) (take (s.deblocked - 0) d) (take (s.cdef - 0) c) ≡ job_of b
  unfolding job_of sections_of
  job_lent ru rd rc u d c p q r = ap4 job_with (ap (λ t. t.frame) f.same) (opened_part b (job_of b).units ru u s.units f.number p units_count)
      (opened_part b (job_of b).deblocked rd d s.deblocked f.number q deblocked_count) (opened_part b (job_of b).cdef rc c s.cdef f.number r cdef_count)

  pub bounds_lent : (j : Job) → j ≡ job_of b → Bounded j
  bounds_lent j e = subst Bounded (sym e) (bounded (job_of b) (job.passed b f.number).2)

-- ---- the number of a job, with and without the extra results
pub form_number : (b : List ℕ) → first (form_tests b) ≡ 0 → job_number b ≡ first (job_tests (job_of b))
unfolding job_number first form_tests
form_number b e = let p = job.passed b e in rw (p.0, p.1, p.2)

extra_first : (a b c : Bool) (m n : ℕ) → 1 ≤ n → n ≡ cond a 18 (cond b 17 (cond c 18 0)) → n ≡ cond a 18 (cond b 17 (cond c 18 m))
extra_first true b c m n h e = e
extra_first false true c m n h e = e
extra_first false false true m n h e = e
extra_first false false false m n h e = absurd (omega arith)

extra_number : (b : List ℕ) (n : ℕ) → 1 ≤ n → (n, no_sections) ≡ open_answer b → n ≡ job_number b
unfolding open_answer job_number first form_tests
extra_number b n h q = extra_first (ltb 4160 (length b)) (no17 b) (no18 (job_of b)) (first (job_tests (job_of b))) n h (ap (λ p. p.0) q)

pub run_refused : (b : List ℕ) (n : ℕ) → 1 ≤ n → (n, no_sections) ≡ open_answer b → (n, no_report) ≡ run_answer b
unfolding run_answer
run_refused b n h q = rw (← extra_number b n h q, ne_eqb n 0 (λ z. omega arith))

pub rows_refused : (b : List ℕ) (n : ℕ) → 1 ≤ n → (n, no_sections) ≡ open_answer b → (out : List ℤ) → out ≡ run_rows b out
unfolding run_rows
rows_refused b n h q out = rw (← extra_number b n h q, ne_eqb n 0 (λ z. omega arith))

pub run_same : (b : List ℕ) (j : Job) → first (form_tests b) ≡ 0 → j ≡ job_of b → work_answer j ≡ run_answer b
unfolding work_answer run_answer
run_same b j e q = ap work_answer q ∙ ap (λ n. by_number n (job_report (job_of b))) (sym (form_number b e))

-- ---- the rows, put back at the start of out
pub rows_long : (j : Job) → first (job_tests j) ≡ 0 → length (job_rows j) ≡ length j.cdef
unfolding job_rows restored_slice tabled job_tests
rows_long j z = plane_length _ _ _ ∙ sym (plane_passed j.frame j.units j.deblocked j.cdef (length j.cdef) 6912 z).long_c

module _ (b : List ℕ) (e : first (form_tests b) ≡ 0) (out : List ℤ) (c : ℕ) (p : c ≡ length (job_of b).cdef) where
  put_so : (t : Bool) → (T t → first (job_tests (job_of b)) ≡ 0) → cond t (job_rows (job_of b)) (take (c - 0) out) ++ post_of 0 (c - 0) out ≡ cond t (laid (job_rows (job_of b)) out) out
  unfolding laid
  put_so true z = ap (λ n. job_rows (job_of b) ++ drop n out) {x = c - 0} {y = length (job_rows (job_of b))} (omega (arith, p, rows_long (job_of b) (z tt)))
  put_so false z = take-append-drop (c - 0) out

  pub rows_put : (j : Job) (t : List ℤ) → j ≡ job_of b → t ≡ work_rows j (take (c - 0) out) → t ++ post_of 0 (c - 0) out ≡ run_rows b out
  unfolding work_rows run_rows
  rows_put j t q r =
      ap (λ l. l ++ post_of 0 (c - 0) out) (r ∙ ap (λ i. work_rows i (take (c - 0) out)) q) ∙ put_so (eqb (first (job_tests (job_of b))) 0) (eqb→eq (first (job_tests (job_of b))) 0)
      ∙ ap (λ n. if_done n (laid (job_rows (job_of b)) out) out) (sym (form_number b e))
