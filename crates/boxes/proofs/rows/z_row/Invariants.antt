-- The run so far is the stamp of j values of z; what is read lies before it and is as it was.
use Prim.Native.Nat.{◌+◌, ◌*◌}
use mathlib.Core.Path.{◌≡◌}
use lib.IntN.{pos}
use Rattle.laws.specs.Runs.{stamp}
use Rattle.standard.specs.SelfGuided.{area}
use Rattle.boxes.specs.Reads.{sample_at, sums}
use Rattle.boxes.specs.Scales.{z_of}
use Rattle.boxes.proofs.rows.z_row.Given as goal

abbrev pub invariant-loop-j : goal.invariant-loop-j
invariant-loop-j g l =
    l.s ≡ stamp (λ k. pos (z_of l.z (area g.row.R) (sums (2 * g.row.R + 1) l.initial.s (l.fa + k) 1) (sample_at l.initial.s (l.fb + k)))) l.to l.j l.initial.s
