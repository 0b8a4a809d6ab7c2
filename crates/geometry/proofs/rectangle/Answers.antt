-- Where a test of the frame gives its number, that number; else what is left.
use Rattle.std.proofs.lemmas.Result.{err_from_is_err_and}
use Rattle.standard.proofs.Answers.{refused}
use Rattle.geometry.proofs.Tests.{rectangle_refused}
use Rattle.geometry.proofs.rectangle.Goals as goal

pub returns-in_err-d : goal.returns-in_err-d
returns-in_err-d c = let p = err_from_is_err_and c.from_residual.result c.from_residual.ensures.1 in rw (p.1, p.2) (rectangle_refused _ _ _ (refused _) c.in_err-d.ensures.number)
