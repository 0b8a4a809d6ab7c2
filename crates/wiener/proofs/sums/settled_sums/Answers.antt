-- The row so far is the stamp of x values; one more store makes it x + 1.
use mathlib.Core.Path.{refl, ◌∙◌}
use Rattle.std.proofs.lemmas.List.{map-set}
use Rattle.laws.specs.Runs.{stamp_none, stamp_more}
use Rattle.wiener.proofs.sums.settled_sums.Goals as goal

pub loop-x-init : goal.loop-x-init
loop-x-init g c = stamp_none _ _ _

pub loop-x-preserved : goal.loop-x-preserved
loop-x-preserved g c = map-set g.U.Half.value _ _ _ ∙ stamp_more _ _ _ _ _ _ _ c.loop-x.invariant refl c.settled_sum.ensures
