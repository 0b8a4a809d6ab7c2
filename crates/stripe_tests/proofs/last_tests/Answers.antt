-- Each return is the number of the first test that holds.
use Rattle.standard.specs.Answers.{refusal_number}
use Rattle.stripe_tests.proofs.Laws.{here, none, past, told}
use Rattle.stripe_tests.proofs.last_tests.Goals as goal

pub bad_rows-requires : goal.bad_rows-requires
bad_rows-requires c = c.requires

pub returns-then-bad_rows : goal.returns-then-bad_rows
unfolding refusal_number
returns-then-bad_rows c = here _ _ _ (told c.bad_rows.ensures c.if-bad_rows.true)

pub returns-then-typed_rooms : goal.returns-then-typed_rooms
unfolding refusal_number
returns-then-typed_rooms c = let k = c in past _ _ _ _ (told k.bad_rows.ensures k.if-bad_rows.false) (here _ _ _ (told c.typed_rooms.ensures c.if-typed_rooms.true))

pub returns : goal.returns
returns c = let k = c in past _ _ _ _ (told k.bad_rows.ensures k.if-bad_rows.false) (past _ _ _ _ (told c.typed_rooms.ensures c.if-typed_rooms.false) none)
