-- The extra results in their order, each from the test before it.
use mathlib.Core.Path.{sym, ◌∙◌}
use Rattle.std.proofs.lemmas.Result.{err_from_is_err_and}
use Rattle.standard.specs.Answers.{job_refusal_number}
use Rattle.standard.proofs.Answers.{job_refused}
use Rattle.job.proofs.Laws.{too_long, refused, over_bound, taken}
use Rattle.job.proofs.form.form.Goals as goal

pub returns-then-bytes-gt4160 : goal.returns-then-bytes-gt4160
unfolding job_refusal_number
returns-then-bytes-gt4160 c = too_long _ c.if-bytes-gt4160.true

pub returns-in_err-s : goal.returns-in_err-s
returns-in_err-s c =
    let p = err_from_is_err_and c.from_residual.result c.from_residual.ensures.1 in
    rw (p.1, p.2) (refused _ c.if-bytes-gt4160.false _ (job_refused _) c.in_err-s.ensures)

pub returns-then-over : goal.returns-then-over
unfolding job_refusal_number
returns-then-over c = over_bound _ c.if-bytes-gt4160.false c.in_ok-s.s c.in_ok-s.ensures (sym c.over.ensures ∙ c.if-over.true)

pub returns : goal.returns
returns c = taken _ c.if-bytes-gt4160.false c.in_ok-s.s c.in_ok-s.ensures (sym c.over.ensures ∙ c.if-over.false)
