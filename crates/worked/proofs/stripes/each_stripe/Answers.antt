-- Stripe by stripe: plane and marks are what the run so far leaves.
use Prim.Native.Nat.{ℕ}
use mathlib.Core.Path.{◌∙◌, ap}
use native.Mathlib.Omega.{arith}
use lib.ListN.{length}
use Rattle.standard.specs.Calls.{Lent}
use Rattle.in_place.specs.Call.{lent}
use Rattle.worked.specs.Work.{stripes_run}
use Rattle.worked.proofs.Run.{stripes_none, stripes_more}
use Rattle.worked.proofs.stripes.each_stripe.Goals as goal

pub loop-s-init : goal.loop-s-init
loop-s-init c = stripes_none _ _ _ _ _ _

pub loop-s-preserved : goal.loop-s-preserved
loop-s-preserved c = let k = c.loop-s.auto in stripes_more _ _ _ _ _ _ _ _ _ _ _ c.restore_stripe.result c.loop-s.invariant k.scratch k.copy c.restore_stripe.ensures.promised

pub returns : goal.returns
returns c = let a = c.args in ap (λ (t : Lent). t.plane) c.loop-s.invariant ∙ ap (λ (k : ℕ). (stripes_run a.f a.table.now a.edges.now (length a.scratch.now) (length a.copy.now) k (lent a.plane.now a.marks.now)).plane) (omega arith)
