-- The rows so far are those of `Sixed`; `SixLaws` has one row more.
use Rattle.selfguided.proofs.SixLaws.{six_setting, sixed_more}
use Rattle.selfguided.proofs.passes.pass0.Goals as goal

pub six_box_row-requires : goal.six_box_row-requires
six_box_row-requires c = six_setting c.requires.0 c.requires.1 c.loop-k.invariant c.loop-k-test.true c.areas_of-at.ensures

pub loop-k-preserved : goal.loop-k-preserved
loop-k-preserved c = sixed_more c.requires.0 c.requires.1 c.loop-k.invariant c.loop-k-test.true c.areas_of-at.ensures c.six_box_row.ensures
