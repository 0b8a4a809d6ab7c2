-- The taps are laid once, then lent to every block.
use native.Mathlib.Omega.{arith}
use Rattle.superres.proofs.Rows.{laid}
use Rattle.superres.proofs.block.scale.Goals as goal

pub invariant_of-blocks : goal.invariant_of-blocks
invariant_of-blocks c = record { laid = laid _ _ (omega arith) c.lay.ensures }
