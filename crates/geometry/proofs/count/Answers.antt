-- Where a test gives its number, that number; else the counts.
use mathlib.Core.Path.{sym, ◌∙◌, ap}
use Rattle.std.proofs.lemmas.Result.{err_from_is_err_and}
use Rattle.standard.proofs.Answers.{refused}
use Rattle.standard.specs.Calls.{counts_of}
use Rattle.geometry.proofs.Tests.{count_done, count_refused}
use Rattle.geometry.proofs.count.Goals as goal

pub returns-in_err-d : goal.returns-in_err-d
returns-in_err-d c = let p = err_from_is_err_and c.from_residual.result c.from_residual.ensures.1 in rw (p.1, p.2) (count_refused _ _ (refused _) c.in_err-d.ensures.number)

pub returns : goal.returns
returns c = count_done _ _ (sym c.in_ok-d.ensures.number) (c.counts.ensures ∙ ap counts_of c.in_ok-d.ensures.passed)
