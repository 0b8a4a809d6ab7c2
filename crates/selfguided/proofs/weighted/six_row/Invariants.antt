-- The run so far is the stamp of j sums; what is read lies before it and is as it was.
use Prim.Native.Nat.{◌+◌}
use mathlib.Core.Path.{◌≡◌}
use lib.IntN.{pos}
use Rattle.laws.specs.Runs.{stamp}
use Rattle.boxes.specs.Reads.{sample_at}
use Rattle.selfguided.specs.Weighing.{five_six}
use Rattle.selfguided.proofs.weighted.six_row.Given as goal

abbrev pub invariant-loop-j : goal.invariant-loop-j
invariant-loop-j l = l.s ≡ stamp (λ k. pos (five_six (λ m. sample_at l.initial.s (l.from + k + m)))) l.to l.j l.initial.s
