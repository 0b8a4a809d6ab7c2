-- Sample by sample: the samples so far are stored.
use Rattle.std.proofs.Common.{arith}
use mir.Syntax.{w32}
use Rattle.laws.specs.ReadBack.{returned}
use Rattle.laws.specs.Runs.{stamp_none, stamp_more}
use Rattle.sample.proofs.bytes.unpack.Goals as goal

pub loop-k-init : goal.loop-k-init
loop-k-init c = stamp_none _ _ _

pub loop-k-preserved : goal.loop-k-preserved
loop-k-preserved c = stamp_more _ _ _ _ _ _ _ c.loop-k.invariant (omega arith) (returned w32 c.wide.type_inv c.wide.ensures)
