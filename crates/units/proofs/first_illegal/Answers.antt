-- The entries before e are legal; the first that is not is the answer.
use Rattle.std.proofs.Common.{sym, ◌∙◌}
use Rattle.units.specs.First.{first_illegal, first_at}
use Rattle.units.proofs.Search.{none_yet, one_more, all_passed}
use Rattle.units.proofs.first_illegal.Goals as goal

pub loop-e-init : goal.loop-e-init
loop-e-init c = none_yet _

pub returns-then-not-legal_entry : goal.returns-then-not-legal_entry
unfolding first_illegal
returns-then-not-legal_entry c = sym (first_at _ _ _ c.loop-e-test.true c.loop-e.invariant (sym c.legal_entry.ensures ∙ c.if-not-legal_entry.true))

pub loop-e-preserved : goal.loop-e-preserved
loop-e-preserved c = one_more _ _ c.loop-e.invariant (sym c.legal_entry.ensures ∙ c.if-not-legal_entry.false)

pub returns : goal.returns
unfolding first_illegal
returns c = all_passed _ _ _ c.loop-e.auto.e-end c.loop-e-test.false c.loop-e.invariant
