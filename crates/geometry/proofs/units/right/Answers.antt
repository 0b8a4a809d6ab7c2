-- The next unit column starts there, or the plane ends.
use Rattle.geometry.proofs.Laws.{right_last, right_next}
use Rattle.geometry.proofs.units.right.Goals as goal

pub returns-then-c-units : goal.returns-then-c-units
returns-then-c-units c = right_last c.args.size c.args.width c.args.c _ c.if-c-units.true c.units.ensures

pub returns-else-c-units : goal.returns-else-c-units
returns-else-c-units c = right_next c.args.size c.args.width c.args.c _ c.if-c-units.false c.units.ensures
