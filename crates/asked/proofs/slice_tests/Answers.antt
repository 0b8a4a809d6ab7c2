-- A frame type that is not 0 is above it; then 5 is given, or what the callee gives.
use native.Mathlib.Omega.{arith}
use Rattle.standard.specs.Answers.{refusal_number}
use Rattle.asked.proofs.Numbers.{framed, gives_5}
use Rattle.asked.proofs.slice_tests.Goals as goal

pub returns-then-bad_unit_size : goal.returns-then-bad_unit_size
unfolding refusal_number
returns-then-bad_unit_size c = gives_5 _ _ _ _ _ _ (framed c.args.p c.requires.0 c.requires.1) (omega arith) (cc)
