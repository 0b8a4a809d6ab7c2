-- The run so far is the stamp of x samples; one more store makes it x + 1.
use Rattle.std.proofs.Common.{◌≡◌, ◌+◌, pos, get_or}
use Rattle.laws.specs.Runs.{stamp}
use Rattle.runs.proofs.copy_run.Given as goal

abbrev pub invariant-loop-x : goal.invariant-loop-x
invariant-loop-x l = l.dst ≡ stamp (λ k. get_or l.src (l.from + k) (pos 0)) l.to l.x l.initial.dst
