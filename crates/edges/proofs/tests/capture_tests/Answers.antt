-- Each return is the number of the first test that holds.
use Rattle.std.proofs.lemmas.Result.{err_from_is_err_and}
use Rattle.standard.proofs.Answers.{refused}
use Rattle.standard.specs.Answers.{refusal_number}
use Rattle.edges.proofs.Numbers.{gives_1, gives_2_4}
use Rattle.edges.proofs.tests.capture_tests.Goals as goal

pub returns-then-bad_depth-clause-number : goal.returns-then-bad_depth-clause-number
unfolding refusal_number
returns-then-bad_depth-clause-number c = gives_1 _ _ _ (cc)

pub returns-in_err-p-clause-number : goal.returns-in_err-p-clause-number
returns-in_err-p-clause-number c =
    let p = err_from_is_err_and c.from_residual.result c.from_residual.ensures.1 in
    rw (p.1, p.2) (gives_2_4 _ _ _ (cc) _ (refused _) c.in_err-p.ensures.number)
