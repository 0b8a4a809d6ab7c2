-- err: both products fit by the bounds of step.
use Prim.Native.Nat.{ℕ, ◌*◌, ◌≤◌, ◌<◌}
use mathlib.Core.Path.{◌≡◌, ◌∙◌, ap}
use native.Mathlib.Omega.{arith}
use lib.IntN.{pos, ◌-ℤ◌}
use mir.Syntax.{w32}
use Rattle.laws.specs.SignedCode.{Expression, Nat, ◌⊝◌, lhs, safe, is_exact}
use Rattle.standard.specs.Superres.{step, err}
use Rattle.superres.proofs.Laws.{step_high}
use Rattle.superres.proofs.positions.Widths.err.Goals as goal

module _ (d u s : ℕ) (p : (d < u) × (u ≤ 16384)) (q : s ≡ step d u) where
  small : u * s ≤ 268443648
  small = omega (arith, ap (λ (n : ℕ). u * n) q, step_high d u)

  abbrev e : Expression
  e = Nat (u * s) 268443648 small ⊝ Nat (16384 * d) 268435456 (omega arith)

pub overflow_mul-result : goal.overflow_mul-result
overflow_mul-result c = omega (arith, small _ _ _ c.args.self.grows c.step.ensures)

pub overflow_cast-result : goal.overflow_cast-result
overflow_cast-result c = safe w32 (lhs (e _ _ _ c.args.self.grows c.step.ensures)) tt

pub overflow_sub-result : goal.overflow_sub-result
overflow_sub-result c = safe w32 (e _ _ _ c.args.self.grows c.step.ensures) tt

pub returns : goal.returns
unfolding err
returns c = is_exact w32 (e _ _ _ c.args.self.grows c.step.ensures) tt ∙ ap (λ (n : ℕ). pos (c.args.self.u * n) -ℤ pos (16384 * c.args.self.d)) c.step.ensures
