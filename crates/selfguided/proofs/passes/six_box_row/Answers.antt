-- Each step reads what the steps before it left: `SixPipe` says what that is.
use native.Mathlib.Omega.{arith}
use Rattle.selfguided.proofs.SixPipe.{second_reads, long2, third_reads, sixed}
use Rattle.selfguided.proofs.passes.six_box_row.Goals as goal

pub six_row-requires : goal.six_row-requires
six_row-requires c = (omega (arith, c.requires.lines_end), omega (arith, c.requires.order, c.requires.room, c.box_row.ensures.long), second_reads c.requires c.box_row.ensures)

pub six_row-requires-2 : goal.six_row-requires-2
six_row-requires-2 c = (
  omega (arith, c.requires.lines_end, c.requires.order),
  omega (arith, c.requires.room, long2 c.requires c.box_row.ensures c.six_row.ensures),
  third_reads c.requires c.box_row.ensures c.six_row.ensures,
)

pub returns : goal.returns
returns c = sixed c.requires c.box_row.ensures c.six_row.ensures c.six_row-2.ensures
