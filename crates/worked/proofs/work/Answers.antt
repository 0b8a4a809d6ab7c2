-- Where the whole-plane call gives its number, that number; else its plane and count, and the count of the in-place run.
use mathlib.Core.Path.{◌≡◌, refl, ◌∙◌, sym}
use native.Mathlib.Omega.{arith}
use lib.ListN.{length}
use lib.IntN.{ℤ}
use Prim.Native.Nat.{ℕ}
use mathlib.Core.List.{List}
use Rattle.standard.specs.declared.Frame.{Frame}
use Rattle.std.proofs.lemmas.Result.{err_from_is_err_and}
use Rattle.standard.specs.Answers.{job_refusal_number}
use Rattle.standard.proofs.Answers.{refused}
use Rattle.standard.specs.Calls.{plane_answer}
use Rattle.standard.specs.Refusals.{first}
use Rattle.standard.specs.Job.{job_tests}
use Rattle.worked.specs.Work.{job_with, work_rows}
use Rattle.worked.proofs.Run.{passed}
use Rattle.worked.proofs.Laws.{plane_done, plane_refused, same_number, same_rows, refused_answer, out_whole, plane_whole, done_answer}
use Rattle.worked.proofs.work.Goals as goal

-- where the whole-plane call is done, no test holds
none_holds : (f : Frame) (u d c o : List ℤ) {n : ℕ} → length o ≡ length c → (0, n) ≡ plane_answer f u d c (length o) 6912 → first (job_tests (job_with f u d c)) ≡ 0
none_holds f u d c o l q = sym (same_number f u d c _ 6912 l refl) ∙ (plane_done _ _ _ _ _ _ _ q).0

pub by_stripes-requires : goal.by_stripes-requires
by_stripes-requires c = (c.requires.0, none_holds c.args.f c.args.units.now c.args.deblocked.now c.args.cdef.now c.args.out.now c.requires.1 c.in_ok-changed.ensures.result_value)

pub compared-requires : goal.compared-requires
compared-requires c =
    let r = c.requires.0 in
    let job = job_with c.args.f c.args.units.now c.args.deblocked.now c.args.cdef.now in
    let z : first (job_tests job) ≡ 0 = none_holds c.args.f c.args.units.now c.args.deblocked.now c.args.cdef.now c.args.out.now c.requires.1 c.in_ok-changed.ensures.result_value in
    let same = c.by_stripes.auto.plane in
    let long = (passed job r z).long_c in
    let out_long = c.restore_plane.auto.out ∙ c.requires.1 in
    let rows : c.restore_plane.new.out ≡ work_rows job c.args.out.now = same_rows c.args.f c.args.units.now c.args.deblocked.now c.args.cdef.now c.args.out.now _ 6912 c.requires.1 refl c.restore_plane.ensures.out_after in
    ((passed job r z).legal, out_long ∙ sym same, omega (arith, same, r.cdef), out_whole job r z _ _ rows (out_long ∙ long), plane_whole job r z _ c.by_stripes.ensures (same ∙ long))

pub returns-in_err-changed-clause-result_value : goal.returns-in_err-changed-clause-result_value
unfolding job_refusal_number
returns-in_err-changed-clause-result_value c =
    let p = err_from_is_err_and c.from_residual.result c.from_residual.ensures.1 in
    let job = job_with c.args.f c.args.units.now c.args.deblocked.now c.args.cdef.now in
    let q = plane_refused _ _ _ _ _ _ _ c.in_err-changed.ensures.result_value ∙ same_number _ _ _ _ _ 6912 c.requires.1 refl in
    rw (p.1, p.2) (refused_answer job _ (refused _) q)

pub returns-in_err-changed-clause-out_after : goal.returns-in_err-changed-clause-out_after
returns-in_err-changed-clause-out_after c = same_rows c.args.f c.args.units.now c.args.deblocked.now c.args.cdef.now c.args.out.now _ 6912 c.requires.1 refl c.restore_plane.ensures.out_after

pub returns-clause-result_value : goal.returns-clause-result_value
returns-clause-result_value c =
    let r = c.requires.0 in
    let job = job_with c.args.f c.args.units.now c.args.deblocked.now c.args.cdef.now in
    let answer = c.in_ok-changed.ensures.result_value in
    let z : first (job_tests job) ≡ 0 = none_holds c.args.f c.args.units.now c.args.deblocked.now c.args.cdef.now c.args.out.now c.requires.1 answer in
    let rows : c.restore_plane.new.out ≡ work_rows job c.args.out.now = same_rows c.args.f c.args.units.now c.args.deblocked.now c.args.cdef.now c.args.out.now _ 6912 c.requires.1 refl c.restore_plane.ensures.out_after in
    done_answer job r z _ _ _ _ _ c.compared.ensures (plane_done _ _ _ _ _ _ _ answer).1 rows c.by_stripes.ensures (c.by_stripes.auto.plane ∙ (passed job r z).long_c)

pub returns-clause-out_after : goal.returns-clause-out_after
returns-clause-out_after c = same_rows c.args.f c.args.units.now c.args.deblocked.now c.args.cdef.now c.args.out.now _ 6912 c.requires.1 refl c.restore_plane.ensures.out_after
