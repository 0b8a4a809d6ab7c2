-- The samples before i are in range; the first that is not is the answer.
use Rattle.std.proofs.Common.{T, pos}
use Rattle.laws.specs.Lists.{all_below}
use Rattle.units.specs.First.{in_range}
use Rattle.units.proofs.samples.find_outside.Given as goal

abbrev pub invariant-loop-i : goal.invariant-loop-i
invariant-loop-i l = T (all_below l.i (in_range (pos l.top) l.s))
