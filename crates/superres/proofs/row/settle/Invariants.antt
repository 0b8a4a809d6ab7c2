-- The run so far is the stamp of x samples.
use mathlib.Core.Path.{◌≡◌}
use lib.ListN.{get_or}
use lib.IntN.{pos}
use Rattle.laws.specs.Runs.{stamp}
use Rattle.standard.specs.Arithmetic.{round2, clip_to}
use Rattle.superres.proofs.row.settle.Given as goal

abbrev pub invariant-loop-x : goal.invariant-loop-x
invariant-loop-x l = l.out ≡ stamp (λ k. pos (clip_to l.top (round2 7 (get_or l.line k (pos 0))))) l.to l.x l.initial.out
