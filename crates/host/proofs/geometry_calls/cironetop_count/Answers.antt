-- The answer of count, told in numbers.
use mathlib.Core.Path.{◌∙◌}
use Rattle.host.proofs.geometry_calls.cironetop_count.Goals as goal

pub returns : goal.returns
returns c = c.from.ensures ∙ c.count.ensures
