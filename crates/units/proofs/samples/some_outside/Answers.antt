-- The samples so far are joined in one number, 0 or 1.
use Rattle.std.proofs.Common.{refl}
use mir.Syntax.{w32}
use Rattle.laws.specs.ReadBack.{returned}
use Rattle.units.proofs.Search.{flags_none, flags_more, of_sample}
use Rattle.units.proofs.samples.some_outside.Goals as goal

pub loop-v-init : goal.loop-v-init
loop-v-init c = flags_none _

pub loop-v-preserved : goal.loop-v-preserved
loop-v-preserved c = flags_more _ _ _ _ c.loop-v.invariant (of_sample _ _ _ _ _ (returned w32 c.outside-arg-1.given refl) c.outside-bad.ensures)
