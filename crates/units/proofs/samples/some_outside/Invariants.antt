-- The samples so far are joined in one number, 0 or 1.
use Rattle.std.proofs.Common.{◌≡◌, pos}
use Rattle.laws.specs.Lists.{all_below}
use Rattle.units.specs.First.{failed, in_range}
use Rattle.units.proofs.samples.some_outside.Given as goal

abbrev pub invariant-loop-v : goal.invariant-loop-v
invariant-loop-v l = l.bad ≡ failed (all_below l.v-index (in_range (pos l.top) l.s))
