-- One turn adds the next sample; the first k are as small as their number allows, so the sum fits.
use Prim.Native.Nat.{◌+◌, ◌*◌}
use mathlib.Core.Path.{◌≡◌}
use native.Mathlib.Omega.{arith}
use Rattle.standard.proofs.Sums.{sum_none, sum_more}
use Rattle.boxes.specs.Reads.{sums}
use Rattle.boxes.proofs.SumLaws.{sums_first}
use Rattle.boxes.proofs.sums.sum_at.Given.{Over}
use Rattle.boxes.proofs.sums.sum_at.Goals as goal

more : (g : Over) (c : goal.After-word-sum g) → c.loop-k.sum + c.word-sum.result ≡ sums (c.loop-k.k + 1) c.args.s.now c.args.i c.args.st
unfolding sums
more g c = sum_more _ _ _ _ c.loop-k.invariant c.word-sum.ensures

pub loop-k-init : goal.loop-k-init
unfolding sums
loop-k-init g c = sum_none _

pub overflow_add-sum : goal.overflow_add-sum
overflow_add-sum g c = omega (arith, more g c, sums_first c.requires.1 (2 * g.row.R) c.args.st (omega arith) (c.loop-k.k + 1) (omega arith))

pub loop-k-preserved : goal.loop-k-preserved
loop-k-preserved g c = more g c
