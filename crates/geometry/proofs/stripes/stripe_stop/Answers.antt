-- The code is the definition.
use mathlib.Core.Path.{refl}
use Rattle.standard.specs.Stripes.{stripe_stop}
use Rattle.geometry.proofs.stripes.stripe_stop.Goals as goal

pub returns : goal.returns
unfolding stripe_stop
returns c = refl
