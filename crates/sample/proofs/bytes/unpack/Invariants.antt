-- Sample by sample: the samples so far are stored.
use mathlib.Core.Path.{◌≡◌}
use lib.IntN.{pos}
use Rattle.laws.specs.Runs.{stamp}
use Rattle.standard.specs.Refusals.{wide}
use Rattle.sample.proofs.bytes.unpack.Given as goal

abbrev pub invariant-loop-k : goal.invariant-loop-k
invariant-loop-k l = l.s ≡ stamp (λ k. pos (wide l.bytes k)) 0 l.k l.initial.s
