-- The rows so far are those of `Crossed`; `CrossLaws` has one row more.
use Rattle.selfguided.proofs.CrossLaws.{cross_setting, crossed_more}
use Rattle.selfguided.proofs.passes.pass1.Goals as goal

pub box_row-requires : goal.box_row-requires
box_row-requires c = cross_setting c.requires c.loop-y.invariant c.loop-y-test.true c.areas_of-at.ensures

pub loop-y-preserved : goal.loop-y-preserved
loop-y-preserved c = crossed_more c.requires c.loop-y.invariant c.loop-y-test.true c.areas_of-at.ensures c.box_row.ensures
