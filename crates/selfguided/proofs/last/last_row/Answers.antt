-- Each pair of filters finds its areas in range, and what it projects is what the definition projects.
use mathlib.Core.Path.{◌∙◌}
use mathlib.Core.Logic.{inl, inr}
use Rattle.selfguided.proofs.ReadyLaws.{source}
use Rattle.selfguided.proofs.RowLaws.{absent_first, even_first, odd_first, absent_second, cross_second, row_is}
use Rattle.selfguided.proofs.last.last_row.Goals as goal

pub result_row-requires : goal.result_row-requires
result_row-requires c = (
  c.requires.0,
  source c.requires.2 c.requires.1 c.spots_of-at.ensures,
  (absent_first c.requires.2 c.requires.3 c.requires.1 c.spots_of-at.ensures c.if-is_none.ensures).reads,
  (cross_second c.requires.2 c.requires.3 c.requires.1 c.spots_of-at.ensures (inl c.if-is_none.ensures)).reads,
)

pub returns-then-is_none : goal.returns-then-is_none
returns-then-is_none c = c.result_row.ensures ∙ row_is c.requires.2 c.requires.3 c.requires.1 c.spots_of-at.ensures
    (absent_first c.requires.2 c.requires.3 c.requires.1 c.spots_of-at.ensures c.if-is_none.ensures)
    (cross_second c.requires.2 c.requires.3 c.requires.1 c.spots_of-at.ensures (inl c.if-is_none.ensures)) _ _

pub result_row-requires-then-is_none-2 : goal.result_row-requires-then-is_none-2
result_row-requires-then-is_none-2 c = (
  c.requires.0,
  source c.requires.2 c.requires.1 c.spots_of-at.ensures,
  (even_first c.requires.2 c.requires.3 c.requires.1 c.spots_of-at.ensures c.if-is_none.ensures c.if-even.true).reads,
  (absent_second c.requires.2 c.requires.3 c.requires.1 c.spots_of-at.ensures c.if-is_none-2.ensures).reads,
)

pub returns-then-is_none-2 : goal.returns-then-is_none-2
returns-then-is_none-2 c = c.result_row-then-is_none-2.ensures ∙ row_is c.requires.2 c.requires.3 c.requires.1 c.spots_of-at.ensures
    (even_first c.requires.2 c.requires.3 c.requires.1 c.spots_of-at.ensures c.if-is_none.ensures c.if-even.true)
    (absent_second c.requires.2 c.requires.3 c.requires.1 c.spots_of-at.ensures c.if-is_none-2.ensures) _ _

pub result_row-requires-else-is_none-2 : goal.result_row-requires-else-is_none-2
result_row-requires-else-is_none-2 c = (
  c.requires.0,
  source c.requires.2 c.requires.1 c.spots_of-at.ensures,
  (even_first c.requires.2 c.requires.3 c.requires.1 c.spots_of-at.ensures c.if-is_none.ensures c.if-even.true).reads,
  (cross_second c.requires.2 c.requires.3 c.requires.1 c.spots_of-at.ensures (inr c.if-is_none-2.ensures)).reads,
)

pub returns-else-is_none-2 : goal.returns-else-is_none-2
returns-else-is_none-2 c = c.result_row-else-is_none-2.ensures ∙ row_is c.requires.2 c.requires.3 c.requires.1 c.spots_of-at.ensures
    (even_first c.requires.2 c.requires.3 c.requires.1 c.spots_of-at.ensures c.if-is_none.ensures c.if-even.true)
    (cross_second c.requires.2 c.requires.3 c.requires.1 c.spots_of-at.ensures (inr c.if-is_none-2.ensures)) _ _

pub result_row-requires-then-is_none-3 : goal.result_row-requires-then-is_none-3
result_row-requires-then-is_none-3 c = (
  c.requires.0,
  source c.requires.2 c.requires.1 c.spots_of-at.ensures,
  (odd_first c.requires.2 c.requires.3 c.requires.1 c.spots_of-at.ensures c.if-is_none.ensures c.if-even.false).reads,
  (absent_second c.requires.2 c.requires.3 c.requires.1 c.spots_of-at.ensures c.if-is_none-3.ensures).reads,
)

pub returns-then-is_none-3 : goal.returns-then-is_none-3
returns-then-is_none-3 c = c.result_row-then-is_none-3.ensures ∙ row_is c.requires.2 c.requires.3 c.requires.1 c.spots_of-at.ensures
    (odd_first c.requires.2 c.requires.3 c.requires.1 c.spots_of-at.ensures c.if-is_none.ensures c.if-even.false)
    (absent_second c.requires.2 c.requires.3 c.requires.1 c.spots_of-at.ensures c.if-is_none-3.ensures) _ _

pub result_row-requires-else-is_none-3 : goal.result_row-requires-else-is_none-3
result_row-requires-else-is_none-3 c = (
  c.requires.0,
  source c.requires.2 c.requires.1 c.spots_of-at.ensures,
  (odd_first c.requires.2 c.requires.3 c.requires.1 c.spots_of-at.ensures c.if-is_none.ensures c.if-even.false).reads,
  (cross_second c.requires.2 c.requires.3 c.requires.1 c.spots_of-at.ensures (inr c.if-is_none-3.ensures)).reads,
)

pub returns-else-is_none-3 : goal.returns-else-is_none-3
returns-else-is_none-3 c = c.result_row-else-is_none-3.ensures ∙ row_is c.requires.2 c.requires.3 c.requires.1 c.spots_of-at.ensures
    (odd_first c.requires.2 c.requires.3 c.requires.1 c.spots_of-at.ensures c.if-is_none.ensures c.if-even.false)
    (cross_second c.requires.2 c.requires.3 c.requires.1 c.spots_of-at.ensures (inr c.if-is_none-3.ensures)) _ _
