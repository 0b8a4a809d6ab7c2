-- Entry by entry: the entries so far are stored.
use Prim.Native.Nat.{◌+◌}
use mathlib.Core.Path.{◌≡◌}
use Rattle.laws.specs.Runs.{stamp}
use Rattle.standard.specs.Refusals.{wide}
use Rattle.job.proofs.entries.section.Given as goal

abbrev pub invariant-loop-k : goal.invariant-loop-k
invariant-loop-k g l = l.room ≡ stamp (λ i. g.S.Sense.number (wide l.bytes (l.at + i))) 0 l.k l.initial.room
