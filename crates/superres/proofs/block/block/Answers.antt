-- The block's tables, then its rows.
use native.Mathlib.Omega.{arith}
use Rattle.superres.proofs.Rows.{ready}
use Rattle.superres.proofs.block.block.Goals as goal

pub invariant_of-k : goal.invariant_of-k
invariant_of-k c = record { inside = c.requires.le_n.2; ready = ready _ _ _ _ _ _ _ _ c.requires.le_n.0 c.requires.le_n.1 (omega arith) (omega arith) c.places.ensures.ps_after c.places.ensures.fs_after }
