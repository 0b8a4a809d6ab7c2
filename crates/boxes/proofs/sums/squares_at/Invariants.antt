-- The sum so far is that of the first k squares.
use mathlib.Core.Path.{◌≡◌}
use Rattle.boxes.specs.Reads.{squares}
use Rattle.boxes.proofs.sums.squares_at.Given as goal

abbrev pub invariant-loop-k : goal.invariant-loop-k
invariant-loop-k g l = l.sum ≡ squares l.k l.s l.i l.st
