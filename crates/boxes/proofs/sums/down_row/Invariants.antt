-- Both runs so far are stamps of j values; what is read lies before them and is as it was.
use Prim.Native.Nat.{◌+◌, ◌*◌}
use mathlib.Core.Path.{◌≡◌}
use lib.IntN.{pos}
use Rattle.boxes.specs.Reads.{sums, squares}
use Rattle.boxes.proofs.Pairs.{pair}
use Rattle.boxes.proofs.sums.down_row.Given as goal

abbrev pub invariant-loop-j : goal.invariant-loop-j
invariant-loop-j g l =
    l.s ≡ pair (λ k. pos (sums (2 * g.row.R + 1) l.initial.s (l.from + k) l.st)) (λ k. pos (squares (2 * g.row.R + 1) l.initial.s (l.from + k) l.st)) l.to l.sq l.initial.s l.j
