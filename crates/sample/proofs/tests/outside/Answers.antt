-- The range of the unpacked samples is the range of the bytes' samples.
use mathlib.Core.Path.{refl, ◌∙◌}
use native.Mathlib.Omega.{arith}
use Rattle.sample.proofs.Numbers.{outside_is}
use Rattle.sample.proofs.tests.outside.Goals as goal

pub returns : goal.returns
returns c = c.out_of_range.ensures ∙ outside_is _ _ _ c.unpack.ensures (omega arith) c.args.depth refl
