-- Each return is the number of the first test that holds.
use borrow.Author.Tests.{eqb-true, not-false}
use lib.Dec.{eqb}
use lib.ListN.{length}
use Rattle.standard.specs.Refusals.{samples}
use Rattle.standard.specs.Answers.{refusal_number}
use Rattle.stripe_tests.proofs.Laws.{here, past, told}
use Rattle.stripe_tests.proofs.slice_tests.Goals as goal

pub returns-then-bad_length : goal.returns-then-bad_length
unfolding refusal_number
returns-then-bad_length c = here _ _ _ (told c.bad_length.ensures c.if-bad_length.true)

pub returns-then-bad_edges : goal.returns-then-bad_edges
unfolding refusal_number
returns-then-bad_edges c = past _ _ _ _ (told c.bad_length.ensures c.if-bad_length.false) (here _ _ _ (told c.bad_edges.ensures c.if-bad_edges.true))

pub typed_units-requires : goal.typed_units-requires
typed_units-requires c = c.requires.1

pub returns-then-typed_units : goal.returns-then-typed_units
unfolding refusal_number
returns-then-typed_units c = past _ _ _ _ (told c.bad_length.ensures c.if-bad_length.false) (past _ _ _ _ (told c.bad_edges.ensures c.if-bad_edges.false) (here _ _ _ (told c.typed_units.ensures c.if-typed_units.true)))

pub returns-then-typed_table : goal.returns-then-typed_table
unfolding refusal_number
returns-then-typed_table c = past _ _ _ _ (told c.bad_length.ensures c.if-bad_length.false) (past _ _ _ _ (told c.bad_edges.ensures c.if-bad_edges.false) (past _ _ _ _ (told c.typed_units.ensures c.if-typed_units.false) (here _ _ _ (told c.typed_table.ensures c.if-typed_table.true))))

pub mark_tests-requires : goal.mark_tests-requires
mark_tests-requires c = (c.requires.0, eqb-true (length c.args.plane.now) (samples c.args.p.frame) (not-false (eqb (length c.args.plane.now) (samples c.args.p.frame)) (told c.bad_length.ensures c.if-bad_length.false)), told c.bad_edges.ensures c.if-bad_edges.false)

pub returns : goal.returns
returns c = past _ _ _ _ (told c.bad_length.ensures c.if-bad_length.false) (past _ _ _ _ (told c.bad_edges.ensures c.if-bad_edges.false) (past _ _ _ _ (told c.typed_units.ensures c.if-typed_units.false) (past _ _ _ _ (told c.typed_table.ensures c.if-typed_table.false) c.mark_tests.ensures)))
