-- 8192 · 4095 and 32 · 1045245 together are far below 2^32.
use Prim.Native.Nat.{◌+◌, ◌*◌, ◌/◌, ◌≤◌}
use mathlib.Core.Path.{◌∙◌, ap}
use native.Mathlib.Omega.{arith}
use native.Mathlib.Nat.{mul-le-mul}
use Rattle.laws.specs.Congruence.{ap2}
use Rattle.standard.specs.Arithmetic.{round_ℕ}
use Rattle.selfguided.proofs.WeighLaws.{cross_small}
use Rattle.selfguided.proofs.FinalLaws.{and_small, cross_F_small}
use Rattle.selfguided.proofs.filtered.CrossFilter.at.Goals as goal

first : (c : goal.After-cross_at) → c.cross_at.result ≤ 8192
first c = omega (arith, c.cross_at.ensures, cross_small (c.args.n + 2) c.requires.0.samples_a (omega arith))

sums : (c : goal.After-cross_at-2) → c.times.result + c.cross_at-2.result ≤ 66994080
sums c =
    omega (
      arith,
      c.times.ensures,
      c.cross_at-2.ensures,
      cross_small (c.args.n + 2) c.requires.0.samples_b (omega arith),
      mul-le-mul {n₁ = c.cross_at.result} {m₁ = c.args.u} {n₂ = 8192} {m₂ = 4095} (first c.before.before.before) c.requires.1,
    )

pub times-requires : goal.times-requires
times-requires c = (first c, c.requires.1)

pub overflow_add-result : goal.overflow_add-result
overflow_add-result c = omega (arith, sums c)

pub overflow_add-result-2 : goal.overflow_add-result-2
overflow_add-result-2 c = omega (arith, sums c)

pub returns : goal.returns
unfolding round_ℕ
returns c = and_small
    (ap2 (λ x y. (x + y + 256) / 512) (c.times.ensures ∙ ap (λ x. x * c.args.u) c.cross_at.ensures) c.cross_at-2.ensures)
    (cross_F_small (c.args.n + 2) c.args.u c.requires.0 c.requires.1)
