-- Each return is the number of the first test that holds.
use Rattle.std.proofs.lemmas.Result.{err_from_is_err_and}
use Rattle.standard.proofs.Answers.{refused}
use Rattle.standard.specs.Answers.{refusal_number}
use Rattle.asked.proofs.Numbers.{gives_1, gives_2, gives_3, gives_4}
use Rattle.asked.proofs.plane_tests.Goals as goal

pub returns-then-bad_depth : goal.returns-then-bad_depth
unfolding refusal_number
returns-then-bad_depth c = gives_1 _ _ _ _ _ _ (cc)

pub returns-then-bad_plane : goal.returns-then-bad_plane
unfolding refusal_number
returns-then-bad_plane c = gives_2 _ _ _ _ _ _ (cc) (cc)

pub returns-then-bad_frame_type : goal.returns-then-bad_frame_type
unfolding refusal_number
returns-then-bad_frame_type c = gives_3 _ _ _ _ _ _ (cc) (cc) (cc)

pub returns-in_err-p : goal.returns-in_err-p
returns-in_err-p c =
    let p = err_from_is_err_and c.from_residual.result c.from_residual.ensures.1 in
    rw (p.1, p.2) (gives_4 _ _ _ _ _ _ (cc) (cc) _ (refused _) c.in_err-p.ensures.number)
