-- Each return is the number of the first test that holds.
use Rattle.std.proofs.lemmas.Result.{err_from_is_err_and}
use Rattle.standard.proofs.Answers.{refused}
use Rattle.standard.specs.Answers.{refusal_number}
use Rattle.geometry.proofs.Tests.{gives_2_4, size_5, size_0}
use Rattle.geometry.proofs.planes.tested.Goals as goal

pub returns-in_err-plane-clause-number : goal.returns-in_err-plane-clause-number
returns-in_err-plane-clause-number c = let p = err_from_is_err_and c.from_residual.result c.from_residual.ensures.1 in rw (p.1, p.2) (gives_2_4 _ _ (refused _) c.in_err-plane.ensures.number)

pub returns-then-bad_unit_size-clause-number : goal.returns-then-bad_unit_size-clause-number
unfolding refusal_number
returns-then-bad_unit_size-clause-number c = size_5 c.in_ok-plane.plane _ c.in_ok-plane.ensures.passed (cc)

pub returns-clause-number : goal.returns-clause-number
returns-clause-number c = size_0 c.in_ok-plane.plane _ c.in_ok-plane.ensures.passed (cc)
