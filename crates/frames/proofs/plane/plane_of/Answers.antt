-- Each return is the number of the first test that holds.
use Rattle.standard.specs.Answers.{refusal_number}
use Rattle.frames.proofs.Legal.{gives_2, gives_4, gives_4_wide, gives_0}
use Rattle.frames.proofs.plane.plane_of.Goals.{then-bad_side-via-then-bad_side, then-bad_side-via-else-bad_side+then-bad_side-2}
use Rattle.frames.proofs.plane.plane_of.Goals as goal

pub returns-then-bad_plane-clause-number : goal.returns-then-bad_plane-clause-number
unfolding refusal_number
returns-then-bad_plane-clause-number c = gives_2 c.args.f (cc)

pub returns-then-bad_side-clause-number : goal.returns-then-bad_side-clause-number
unfolding refusal_number
returns-then-bad_side-clause-number c = elim c.then-bad_side.branch [
  | then-bad_side-via-then-bad_side w ↦ gives_4 c.args.f (cc) (cc)
  | then-bad_side-via-else-bad_side+then-bad_side-2 w ↦ gives_4_wide c.args.f (cc) (cc) (cc)
]

pub returns-clause-number : goal.returns-clause-number
returns-clause-number c = gives_0 c.args.f (cc) (cc) (cc)
