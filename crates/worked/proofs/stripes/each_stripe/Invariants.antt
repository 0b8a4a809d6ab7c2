-- Stripe by stripe: plane and marks are what the run so far leaves.
use mathlib.Core.Path.{◌≡◌}
use lib.ListN.{length}
use Rattle.in_place.specs.Call.{lent}
use Rattle.worked.specs.Work.{stripes_run}
use Rattle.worked.proofs.stripes.each_stripe.Given as goal

abbrev pub invariant-loop-s : goal.invariant-loop-s
invariant-loop-s l = lent l.plane l.marks ≡ stripes_run l.f l.table l.edges (length l.initial.scratch) (length l.initial.copy) l.s (lent l.initial.plane l.initial.marks)
