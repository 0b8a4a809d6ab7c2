-- The run so far is the stamp of 4 j values of a2; four more are one more run, read where nothing was written.
use Prim.Native.Nat.{◌+◌, ◌*◌}
use mathlib.Core.Path.{◌≡◌}
use lib.IntN.{pos}
use Rattle.laws.specs.Runs.{stamp}
use Rattle.standard.specs.SelfGuided.{a2_of}
use Rattle.boxes.specs.Reads.{sample_at}
use Rattle.boxes.proofs.rows.a2_fours.Given as goal

abbrev pub invariant-loop-j : goal.invariant-loop-j
invariant-loop-j l = l.s ≡ stamp (λ k. pos (a2_of (sample_at l.initial.s (l.from + k)))) l.to (4 * l.j) l.initial.s
