-- The samples before i are in range; the first that is not is the answer.
use Rattle.std.proofs.Common.{refl, sym}
use mir.Syntax.{w32}
use Rattle.laws.specs.ReadBack.{returned}
use Rattle.units.specs.First.{first_at}
use Rattle.units.proofs.Search.{none_yet, one_more, all_passed, flag_passed, flag_failed, of_sample}
use Rattle.units.proofs.samples.find_outside.Goals as goal

pub loop-i-init : goal.loop-i-init
loop-i-init c = none_yet _

pub returns-then-outside-ne0 : goal.returns-then-outside-ne0
returns-then-outside-ne0 c =
    sym (first_at _ _ _ c.loop-i-test.true c.loop-i.invariant (flag_failed _ _ (of_sample _ _ _ _ _ (returned w32 c.outside-arg-1.given refl) c.outside.ensures) c.if-outside-ne0.true))

pub loop-i-preserved : goal.loop-i-preserved
loop-i-preserved c = one_more _ _ c.loop-i.invariant (flag_passed _ _ (of_sample _ _ _ _ _ (returned w32 c.outside-arg-1.given refl) c.outside.ensures) c.if-outside-ne0.false)

pub returns : goal.returns
returns c = all_passed _ _ _ c.loop-i.auto.i-end c.loop-i-test.false c.loop-i.invariant
