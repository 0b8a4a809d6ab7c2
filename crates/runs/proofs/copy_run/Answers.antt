-- The run so far is the stamp of x samples; one more store makes it x + 1.
use mathlib.Core.Path.{refl}
use mir.Syntax.{w32}
use Rattle.laws.specs.ReadBack.{returned}
use Rattle.laws.specs.Runs.{stamp_none, stamp_more}
use Rattle.runs.proofs.copy_run.Goals as goal

pub loop-x-init : goal.loop-x-init
loop-x-init c = stamp_none _ _ _

pub loop-x-preserved : goal.loop-x-preserved
loop-x-preserved c = stamp_more _ _ _ _ _ _ _ c.loop-x.invariant refl (returned w32 c.dst-1.given refl)
