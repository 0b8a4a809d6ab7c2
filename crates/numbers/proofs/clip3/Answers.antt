-- Clip3: each return is an arm of the definition, on what the branches say of the numbers read.
use mathlib.Core.Path.{sym, ◌∙◌}
use mir.Facts.{to_z-of_z}
use Rattle.laws.specs.ReadBack.{lt_yes, lt_no}
use Rattle.standard.proofs.Arms.{clip3_below, clip3_above, clip3_inside}
use Rattle.numbers.proofs.clip3.Goals as goal

pub returns-then-x-lo : goal.returns-then-x-lo
returns-then-x-lo c = let f = c.ranges in to_z-of_z f.lo ∙ sym (clip3_below _ (lt_yes (to_z-of_z f.x) (to_z-of_z f.lo) c.if-x-lo.true))

pub returns-then-hi-x : goal.returns-then-hi-x
returns-then-hi-x c = let f = c.ranges in
    to_z-of_z f.hi ∙ sym (clip3_above (lt_no (to_z-of_z f.x) (to_z-of_z f.lo) c.if-x-lo.false) (lt_yes (to_z-of_z f.hi) (to_z-of_z f.x) c.if-hi-x.true))

pub returns-else-hi-x : goal.returns-else-hi-x
returns-else-hi-x c = let f = c.ranges in
    to_z-of_z f.x ∙ sym (clip3_inside (lt_no (to_z-of_z f.x) (to_z-of_z f.lo) c.if-x-lo.false) (lt_no (to_z-of_z f.hi) (to_z-of_z f.x) c.if-hi-x.false))
