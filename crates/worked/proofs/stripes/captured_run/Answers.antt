-- The captured rows, and the run from them.
use mathlib.Core.Path.{◌∙◌, sym, ap}
use native.Mathlib.Omega.{arith}
use lib.ListN.{length}
use Rattle.in_place.specs.Call.{lent}
use Rattle.edges.proofs.Numbers.{captured_done}
use Rattle.worked.specs.Work.{stripes_run}
use Rattle.worked.proofs.stripes.captured_run.Goals as goal

pub capture_edges-requires : goal.capture_edges-requires
capture_edges-requires c = tt

pub overflow_cast-n : goal.overflow_cast-n
overflow_cast-n c = omega (arith, c.requires.1)

pub each_stripe-requires : goal.each_stripe-requires
each_stripe-requires c = tt

pub returns : goal.returns
returns c = let s = c in
    c.each_stripe.ensures
    ∙ ap (λ E. (stripes_run s.args.f s.args.table.now E (length s.args.scratch.now) (length s.args.copy.now) (length s.args.marks.now) (lent s.args.plane.now s.args.marks.now)).plane)
    (c.capture_edges.ensures.edges_after ∙ sym (captured_done _ _ _ s.requires.0))
