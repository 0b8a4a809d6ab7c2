-- The blocks before k are done, the other columns are as they were.
use mathlib.Core.Path.{refl}
use native.Mathlib.Omega.{arith}
use Rattle.laws.specs.Cover.{painted_none, painted_more, painted_all}
use Rattle.superres.proofs.Blocks.{blocks_cover}
use Rattle.superres.proofs.block.blocks.Goals as goal

pub loop-k-init : goal.loop-k-init
loop-k-init c = painted_none _ _ _ _ _ _ _

pub loop-k-preserved : goal.loop-k-preserved
loop-k-preserved c = painted_more _ _ _ _ _ _ _ (blocks_cover c.args.s.now.p.width c.args.s.now.p.rows) c.loop-k.k c.loop-k.out _ (omega arith) (omega arith) (omega arith) c.loop-k.invariant (rw c.min.ensures at c.block.ensures)

pub returns : goal.returns
returns c = painted_all _ _ _ _ _ _ _ (blocks_cover c.args.s.now.p.width c.args.s.now.p.rows) c.loop-k.k c.loop-k.out refl (omega arith) c.requires c.loop-k.invariant
