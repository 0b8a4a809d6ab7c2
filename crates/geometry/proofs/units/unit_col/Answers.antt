-- There is a last unit.
use native.Mathlib.Omega.{arith}
use Rattle.geometry.proofs.Laws.{units_some}
use Rattle.geometry.proofs.units.unit_col.Goals as goal

pub overflow_sub-units : goal.overflow_sub-units
overflow_sub-units c = omega (arith, c.units.ensures, units_some c.args.width c.args.size)
