-- The nine samples are bounded, and the corners are among them.
use Prim.Native.Nat.{◌+◌, ◌-◌, ◌*◌, ◌≤◌}
use mathlib.Core.Path.{◌∙◌}
use native.Mathlib.Omega.{arith}
use Rattle.laws.specs.Congruence.{ap5}
use Rattle.boxes.proofs.SumLaws.{sum3_is}
use Rattle.selfguided.proofs.WeighLaws.{cross_is, cross_sums}
use Rattle.selfguided.proofs.weighted.cross_at.Goals as goal

all : (c : goal.After-sum_at-3) → c.sum_at.result + c.sum_at-2.result + c.sum_at-3.result ≤ 9407205
all c = let b = cross_sums c.args.st c.requires.1 in omega (arith, c.sum_at.ensures, c.sum_at-2.ensures, c.sum_at-3.ensures, b.0, b.1, b.2)

pub overflow_add-all : goal.overflow_add-all
overflow_add-all c = let b = cross_sums c.args.st c.requires.1 in omega (arith, c.sum_at.ensures, c.sum_at-2.ensures, b.0, b.1)

pub overflow_add-all-2 : goal.overflow_add-all-2
overflow_add-all-2 c = omega (arith, all c)

pub overflow_mul-result : goal.overflow_mul-result
overflow_mul-result c = omega (arith, all c)

pub overflow_sub-result : goal.overflow_sub-result
overflow_sub-result c = omega (arith, c.ends_at-2.ensures, c.ends_at.ensures, c.sum_at-3.ensures, c.sum_at.ensures, sum3_is c.args.s.now c.args.i 1, sum3_is c.args.s.now (c.args.i + 2 * c.args.st) 1)

pub returns : goal.returns
returns c = ap5 (λ a b d e f. 4 * (a + b + d) - (e + f)) c.sum_at.ensures c.sum_at-2.ensures c.sum_at-3.ensures c.ends_at.ensures c.ends_at-2.ensures
    ∙ cross_is c.args.s.now c.args.i c.args.st
