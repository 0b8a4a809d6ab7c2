-- As the loop turns, by the value that `narrow` keeps.
use Rattle.std.proofs.Common.{refl, ◌∙◌}
use mir.Syntax.{w16, w32}
use Rattle.laws.specs.ReadBack.{returned}
use Rattle.laws.specs.Runs.{stamp_none, stamp_more}
use Rattle.runs.proofs.narrow_run.Goals as goal

pub loop-x-init : goal.loop-x-init
loop-x-init c = stamp_none _ _ _

pub loop-x-preserved : goal.loop-x-preserved
loop-x-preserved c = stamp_more _ _ _ _ _ _ _ c.loop-x.invariant refl (returned w16 c.narrow.type_inv (c.narrow.ensures ∙ returned w32 c.narrow-arg-1.given refl))
