-- The rows so far are those of i results; one more call makes one more row.
use mathlib.Core.Path.{refl}
use Rattle.laws.specs.Rows.{rows_none, rows_more}
use Rattle.selfguided.proofs.last.last.Goals as goal

pub loop-i-init : goal.loop-i-init
loop-i-init c = rows_none _ _ _ _ _

pub loop-i-preserved : goal.loop-i-preserved
loop-i-preserved c = rows_more _ _ _ _ _ _ _ _ _ _ c.last_row.ensures c.loop-i.invariant refl (λ k h. refl)
