-- The run so far is the stamp of j results.
use mir.Syntax.{w32}
use Rattle.laws.specs.ReadBack.{returned}
use Rattle.laws.specs.Runs.{stamp_none, stamp_more}
use Rattle.std.proofs.Common.{refl}
use Rattle.selfguided.proofs.results.result_row.Goals as goal

pub loop-j-init : goal.loop-j-init
loop-j-init g c = stamp_none _ _ _

pub loop-j-preserved : goal.loop-j-preserved
loop-j-preserved g c = stamp_more _ _ _ _ _ _ _ c.loop-j.invariant refl (returned w32 c.result_at.type_inv c.result_at.ensures)
