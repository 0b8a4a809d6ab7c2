-- What is added, by the sizes that hold at every depth.
use mathlib.Core.Path.{◌≡◌, refl, ◌∙◌, ap}
use Prim.Native.Nat.{ℕ, ◌-◌, ◌^◌, ◌≤◌}
use native.Mathlib.Omega.{arith}
use lib.IntN.{ℤ, pos, ◌-ℤ◌, ◌*ℤ◌}
use mir.Syntax.{w32}
use mir.Val.{to_z, of_z}
use Rattle.laws.specs.SignedCode.{Expression, Held, Lit, ◌⊝◌, ◌⊗◌, is_exact}
use Rattle.laws.specs.ReadBack.{returned, one_shifted}
use Rattle.standard.specs.declared.Depth.{Depth}
use Rattle.standard.specs.Depths.{r1, offset}
use Rattle.wiener.specs.Passes.{bias}
use Rattle.wiener.proofs.PassLaws.{r1_high, offset_high, down_mild}
use Rattle.wiener.proofs.rounds.down_rounding.Goals.{After-largest-top}
use Rattle.wiener.proofs.rounds.down_rounding.Goals as goal

raise : (c : After-largest-top) → c.r1-r.result - 1 ≤ 10
raise c = omega (arith, c.r1-r.ensures, r1_high c.args.d)

abbrev e : After-largest-top → Expression
e c = let d = c.args.d in
    one_shifted w32 (c.r1-r.result - 1) 10 (raise c) tt
    ⊝ (Held (to_z w32 (of_z w32 c.offset-off.result)) (pos (offset d)) 8192 (returned w32 c.offset-off.type_inv c.offset-off.ensures) (offset_high d) ⊝ Lit (pos 16384)) ⊗ Lit (pos 128)

added : {x : ℤ} {r : ℕ} (d : Depth) → r ≡ r1 d → x ≡ pos (2 ^ (r - 1)) -ℤ (pos (offset d) -ℤ pos 16384) *ℤ pos 128 → x ≡ pos (2 ^ (r1 d - 1)) -ℤ bias d *ℤ pos 128
unfolding bias
added d p q = q ∙ ap (λ r. pos (2 ^ (r - 1)) -ℤ (pos (offset d) -ℤ pos 16384) *ℤ pos 128) p

pub returns-clause-add_value : goal.returns-clause-add_value
returns-clause-add_value c = let p = c.r1-r.ensures in (added c.args.d p (is_exact w32 (e c.before) tt), p)

pub invariant_of-result : goal.invariant_of-result
invariant_of-result c = let d = c.args.d in let p = c.r1-r.ensures in record { mild = down_mild d (added d p (is_exact w32 (e c) tt)) p refl (returned w32 c.largest-top.type_inv c.largest-top.ensures) }
