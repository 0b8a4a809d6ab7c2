-- The run so far is the stamp of j values of b2; what is read lies before it and is as it was.
use Prim.Native.Nat.{◌+◌, ◌*◌, ◌-◌}
use mathlib.Core.Path.{◌≡◌}
use lib.IntN.{pos}
use Rattle.laws.specs.Runs.{stamp}
use Rattle.standard.specs.Arithmetic.{round_ℕ}
use Rattle.boxes.specs.Reads.{sample_at}
use Rattle.boxes.proofs.rows.b2_row.Given as goal

abbrev pub invariant-loop-j : goal.invariant-loop-j
invariant-loop-j l = l.s ≡ stamp (λ k. pos (round_ℕ 12 ((256 - sample_at l.initial.s (l.fa + k)) * sample_at l.initial.s (l.fb + k) * l.o))) l.to l.j l.initial.s
