-- Inside the plane the row itself: the same middle values.
use mathlib.Core.Path.{◌∙◌}
use Rattle.laws.specs.Runs.{stamp_same}
use Rattle.rectangle.proofs.SharpLaws.{direct_value}
use Rattle.rectangle.proofs.sharp.middle_row.Goals as goal

pub returns-else-row-x0 : goal.returns-else-row-x0
returns-else-row-x0 c = let s = c.args in c.across_row.ensures ∙ stamp_same _ _ _ _ _ (λ x h. direct_value s.d s.taps.now.t s.row.now s.x0 s.n x c.if-x0-lt3.false c.if-row-x0.false h)
