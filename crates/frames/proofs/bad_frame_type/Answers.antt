-- Number 3: the test is the condition.
use mathlib.Core.Path.{refl}
use Rattle.standard.specs.Refusals.{no3}
use Rattle.frames.proofs.bad_frame_type.Goals as goal

pub returns : goal.returns
unfolding no3
returns c = refl
