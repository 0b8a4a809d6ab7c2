-- The sum so far is that of the first k samples.
use mathlib.Core.Path.{◌≡◌}
use Rattle.boxes.specs.Reads.{sums}
use Rattle.boxes.proofs.sums.sum_at.Given as goal

abbrev pub invariant-loop-k : goal.invariant-loop-k
invariant-loop-k g l = l.sum ≡ sums l.k l.s l.i l.st
