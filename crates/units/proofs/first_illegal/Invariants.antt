-- The entries before e are legal; the first that is not is the answer.
use Rattle.std.proofs.Common.{T}
use Rattle.laws.specs.Lists.{all_below}
use Rattle.standard.specs.Units.{legal_entry}
use Rattle.units.proofs.first_illegal.Given as goal

abbrev pub invariant-loop-e : goal.invariant-loop-e
invariant-loop-e l = T (all_below l.e (legal_entry l.plane l.t))
