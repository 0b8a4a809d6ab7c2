-- The run so far is the stamp of j values of a2, which begins with the fours.
use Prim.Native.Nat.{◌+◌}
use mathlib.Core.Path.{◌≡◌}
use lib.IntN.{pos}
use Rattle.laws.specs.Runs.{stamp}
use Rattle.standard.specs.SelfGuided.{a2_of}
use Rattle.boxes.specs.Reads.{sample_at}
use Rattle.boxes.proofs.rows.a2_row.Given as goal

abbrev pub invariant-loop-j : goal.invariant-loop-j
invariant-loop-j l = l.s ≡ stamp (λ k. pos (a2_of (sample_at l.fn.s (l.from + k)))) l.to l.j l.fn.s
