-- The set is not below 0, so the cast keeps it.
use mir.Syntax.{w32}
use lib.Dec.{lit<}
use Rattle.laws.specs.ReadBack.{returned, cast_unsigned_at}
use Rattle.units.proofs.Legal.{set_low, set_high}
use Rattle.units.proofs.weights_at.Goals as goal

pub overflow_cast-result : goal.overflow_cast-result
overflow_cast-result c = cast_unsigned_at w32 (returned w32 c.field.type_inv c.field.ensures) (set_low _ _ c.requires.t) (set_high _ _ c.requires.t) (record { fits = lit< tt })
