-- The shift keeps the bits of a row, so that the sum and the quotient are the definition.
use native.Mathlib.Omega.{arith}
use mathlib.Core.Path.{ap}
use Prim.Native.Nat.{◌+◌, ◌/◌}
use Rattle.geometry.proofs.Laws.{luma_kept}
use Rattle.standard.specs.Stripes.{stripe_of}
use Rattle.geometry.proofs.stripes.stripe_of.Goals as goal

pub overflow_add-result : goal.overflow_add-result
overflow_add-result c = omega (arith, luma_kept c.args.sub_y c.args.row c.requires.0 c.requires.1)

pub returns : goal.returns
unfolding stripe_of
returns c = ap (λ n. (n + 8) / 64) (luma_kept c.args.sub_y c.args.row c.requires.0 c.requires.1).0
