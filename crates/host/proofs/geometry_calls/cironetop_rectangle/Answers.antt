-- The answer of rectangle, told in numbers.
use mathlib.Core.Path.{◌∙◌}
use Rattle.host.proofs.geometry_calls.cironetop_rectangle.Goals as goal

pub returns : goal.returns
returns c = c.from.ensures ∙ c.rectangle.ensures
