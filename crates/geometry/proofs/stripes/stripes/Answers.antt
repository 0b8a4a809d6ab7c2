-- One more than the stripe of the last row.
use native.Mathlib.Omega.{arith}
use mathlib.Core.Path.{ap}
use Prim.Native.Nat.{◌+◌}
use Rattle.geometry.proofs.Laws.{stripes_small}
use Rattle.standard.specs.Stripes.{stripes}
use Rattle.geometry.proofs.stripes.stripes.Goals as goal

pub overflow_add-result : goal.overflow_add-result
unfolding stripes
overflow_add-result c = let a = c.args in omega (arith, c.stripe_of.ensures, stripes_small a.sub_y a.height c.requires.0 c.requires.2)

pub returns : goal.returns
unfolding stripes
returns c = ap (λ n. n + 1) c.stripe_of.ensures
