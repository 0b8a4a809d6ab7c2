-- The run so far is the stamp of x sums.
use mathlib.Core.Path.{◌≡◌}
use lib.ListN.{get_or}
use Rattle.laws.specs.Runs.{stamp}
use Rattle.superres.specs.Scaled.{dot}
use Rattle.superres.proofs.row.sums.Given as goal

abbrev pub invariant-loop-x : goal.invariant-loop-x
invariant-loop-x l = l.line ≡ stamp (λ k. dot l.r (get_or l.ps k 0) l.t (get_or l.fs k 0)) 0 l.x l.initial.line
