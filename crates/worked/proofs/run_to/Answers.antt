-- Where the reader gives its number, that number; else the sections that it laid are lent to the work.
use mathlib.Core.Path.{◌≡◌, ◌∙◌, sym}
use native.Mathlib.Omega.{arith}
use Prim.Native.Nat.{◌-◌}
use lib.ListN.{length, take}
use lib.Seq.{length-take-le}
use Rattle.std.proofs.lemmas.Result.{err_from_is_err_and}
use Rattle.standard.proofs.Answers.{job_refused}
use Rattle.standard.specs.Job.{job_of}
use Rattle.job.proofs.Laws.{found_in}
use Rattle.worked.specs.Work.{job_with}
use Rattle.worked.proofs.Laws.{opened_long, job_lent, units_count, deblocked_count, cdef_count, bounds_lent, run_refused, rows_refused, run_same, rows_put}
use Rattle.worked.proofs.run_to.Goals as goal

pub slice_bounds-work-end : goal.slice_bounds-work-end
slice_bounds-work-end c =
    let f = found_in _ _ c.in_ok-s.ensures.result_value in
    let long : length c.read_job.new.units ≡ 20 = opened_long _ _ _ _ c.read_job.ensures.units_after (omega (arith, f.few_units, units_count _ _ f)) in
    omega (arith, f.few_units, long)

pub slice_bounds-work-end-2 : goal.slice_bounds-work-end-2
slice_bounds-work-end-2 c =
    let f = found_in _ _ c.in_ok-s.ensures.result_value in
    let long : length c.read_job.new.deblocked ≡ 1024 = opened_long _ _ _ _ c.read_job.ensures.deblocked_after (omega (arith, f.few_deblocked, deblocked_count _ _ f)) in
    omega (arith, f.few_deblocked, long)

pub slice_bounds-cdef-end : goal.slice_bounds-cdef-end
slice_bounds-cdef-end c =
    let f = found_in _ _ c.in_ok-s.ensures.result_value in
    let long : length c.read_job.new.cdef ≡ 1024 = opened_long _ _ _ _ c.read_job.ensures.cdef_after (omega (arith, f.few_cdef, cdef_count _ _ f)) in
    omega (arith, f.few_cdef, long)

pub work-requires : goal.work-requires
work-requires c =
    let f = found_in _ _ c.in_ok-s.ensures.result_value in
    let s = c.in_ok-s.s in
    let r = c.read_job.new in
    let long : length r.cdef ≡ 1024 = opened_long _ _ _ _ c.read_job.ensures.cdef_after (omega (arith, f.few_cdef, cdef_count _ _ f)) in
    let same : job_with s.frame (take (s.units - 0) r.units) (take (s.deblocked - 0) r.deblocked) (take (s.cdef - 0) r.cdef) ≡ job_of c.args.bytes.now = job_lent _ _ f _ _ _ _ _ _ c.read_job.ensures.units_after c.read_job.ensures.deblocked_after c.read_job.ensures.cdef_after in
    (bounds_lent _ _ f _ same, length-take-le (s.cdef - 0) c.args.out.now (omega (arith, f.few_cdef, c.requires)) ∙ sym (length-take-le (s.cdef - 0) r.cdef (omega (arith, f.few_cdef, long))))

pub returns-in_err-s-clause-result_value : goal.returns-in_err-s-clause-result_value
returns-in_err-s-clause-result_value c =
    let p = err_from_is_err_and c.from_residual.result c.from_residual.ensures.1 in
    rw (p.1, p.2) (run_refused _ _ (job_refused _) c.in_err-s.ensures.result_value)

pub returns-in_err-s-clause-out_after : goal.returns-in_err-s-clause-out_after
returns-in_err-s-clause-out_after c = rows_refused _ _ (job_refused _) c.in_err-s.ensures.result_value _

pub returns-clause-result_value : goal.returns-clause-result_value
returns-clause-result_value c =
    let f = found_in _ _ c.in_ok-s.ensures.result_value in
    let s = c.in_ok-s.s in
    let r = c.read_job.new in
    let same : job_with s.frame (take (s.units - 0) r.units) (take (s.deblocked - 0) r.deblocked) (take (s.cdef - 0) r.cdef) ≡ job_of c.args.bytes.now = job_lent _ _ f _ _ _ _ _ _ c.read_job.ensures.units_after c.read_job.ensures.deblocked_after c.read_job.ensures.cdef_after in
    c.work.ensures.result_value ∙ run_same _ _ f.number same

pub returns-clause-out_after : goal.returns-clause-out_after
returns-clause-out_after c =
    let f = found_in _ _ c.in_ok-s.ensures.result_value in
    let s = c.in_ok-s.s in
    let r = c.read_job.new in
    let same : job_with s.frame (take (s.units - 0) r.units) (take (s.deblocked - 0) r.deblocked) (take (s.cdef - 0) r.cdef) ≡ job_of c.args.bytes.now = job_lent _ _ f _ _ _ _ _ _ c.read_job.ensures.units_after c.read_job.ensures.deblocked_after c.read_job.ensures.cdef_after in
    rows_put _ f.number _ _ (cdef_count _ _ f) _ _ same c.work.ensures.out_after
