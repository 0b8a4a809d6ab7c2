-- Round2 of an unsigned number: half the divisor fits, and so does the sum.
use Prim.Native.Nat.{◌-◌, ◌+◌, ◌/◌, ◌^◌, ◌≤◌, ◌*◌, ◌%◌}
use mathlib.Core.Path.{◌≡◌, sym, ◌∙◌, ap}
use native.Mathlib.Omega.{arith}
use lib.Pow.{pow_mono}
use mir.Syntax.{w32}
use Rattle.laws.specs.ReadBack.{one_shl}
use Rattle.standard.proofs.Arms.{round_ℕ_zero, round_ℕ_more}
use Rattle.numbers.proofs.round2_u32.Goals as goal

-- 1 << (n - 1)
half : (c : goal.Else-n-eq0) → 1 * 2 ^ (c.args.n - 1) % 4294967296 ≡ 2 ^ (c.args.n - 1)
half c = one_shl w32 (c.args.n - 1) (omega arith)

half_small : (c : goal.Else-n-eq0) → 2 ^ (c.args.n - 1) ≤ 524288
half_small c = pow_mono {i = c.args.n - 1} {j = 19} (omega arith)

pub returns-then-n-eq0 : goal.returns-then-n-eq0
returns-then-n-eq0 c = sym (round_ℕ_zero c.args.x c.args.n c.if-n-eq0.true)

pub overflow_add-result : goal.overflow_add-result
overflow_add-result c = omega (arith, half c, half_small c)

pub returns : goal.returns
returns c = ap (λ h. (c.args.x + h) / 2 ^ c.args.n) (half c) ∙ sym (round_ℕ_more c.args.x c.args.n c.if-n-eq0.false)
