-- The run so far is the stamp of j sums; what is read lies before it and is as it was.
use Prim.Native.Nat.{◌+◌, ◌*◌}
use mathlib.Core.Path.{◌≡◌}
use lib.IntN.{pos}
use Rattle.laws.specs.Runs.{stamp}
use Rattle.boxes.specs.Reads.{sums}
use Rattle.boxes.proofs.sums.sum_row.Given as goal

abbrev pub invariant-loop-j : goal.invariant-loop-j
invariant-loop-j g l = l.s ≡ stamp (λ k. pos (sums (2 * g.row.R + 1) l.initial.s (l.from + k) l.st)) l.to l.j l.initial.s
