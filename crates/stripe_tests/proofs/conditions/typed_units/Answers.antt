-- At the other types the unit size is legal.
use Rattle.stripe_tests.proofs.Laws.{sized}
use Rattle.stripe_tests.proofs.conditions.typed_units.Goals as goal

pub invariant_of-d : goal.invariant_of-d
invariant_of-d c = record { size = sized c.args.p.frame c.requires c.if-p-eq0.false }
