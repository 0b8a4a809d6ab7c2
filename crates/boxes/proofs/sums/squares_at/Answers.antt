-- One turn adds the next square; the first k are as small as their number allows, so the sum fits.
use Prim.Native.Nat.{◌+◌, ◌*◌}
use mathlib.Core.Path.{◌≡◌}
use native.Mathlib.Omega.{arith}
use Rattle.standard.proofs.Sums.{sum_none, sum_more}
use Rattle.boxes.specs.Reads.{squares}
use Rattle.boxes.proofs.SumLaws.{squares_first}
use Rattle.boxes.proofs.sums.squares_at.Given.{Over}
use Rattle.boxes.proofs.sums.squares_at.Goals as goal

more : (g : Over) (c : goal.After-square_at-sum g) → c.loop-k.sum + c.square_at-sum.result ≡ squares (c.loop-k.k + 1) c.args.s.now c.args.i c.args.st
unfolding squares
more g c = sum_more _ _ _ _ c.loop-k.invariant c.square_at-sum.ensures

pub loop-k-init : goal.loop-k-init
unfolding squares
loop-k-init g c = sum_none _

pub overflow_add-sum : goal.overflow_add-sum
overflow_add-sum g c = omega (arith, more g c, squares_first c.requires.1 (2 * g.row.R) c.args.st (omega arith) (c.loop-k.k + 1) (omega arith))

pub loop-k-preserved : goal.loop-k-preserved
loop-k-preserved g c = more g c
