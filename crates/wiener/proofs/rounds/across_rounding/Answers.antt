-- What is added, by the sizes that hold at every depth.
use mathlib.Core.Path.{◌≡◌, refl, ◌∙◌, ap}
use Prim.Native.Nat.{ℕ, ◌-◌, ◌^◌, ◌≤◌}
use native.Mathlib.Omega.{arith}
use lib.IntN.{ℤ, pos, ◌+ℤ◌, ◌-ℤ◌, ◌*ℤ◌}
use mir.Syntax.{w32}
use mir.Val.{to_z, of_z}
use Rattle.laws.specs.SignedCode.{Expression, Held, Lit, ◌⊕◌, ◌⊝◌, ◌⊗◌, is_exact}
use Rattle.laws.specs.ReadBack.{returned, one_shifted}
use Rattle.standard.specs.declared.Depth.{Depth}
use Rattle.standard.specs.Depths.{r0, offset, limit}
use Rattle.wiener.specs.Passes.{bias}
use Rattle.wiener.proofs.PassLaws.{r0_high, offset_high, limit_high, across_mild}
use Rattle.wiener.proofs.rounds.across_rounding.Goals.{After-limit-top}
use Rattle.wiener.proofs.rounds.across_rounding.Goals as goal

raise : (c : After-limit-top) → c.r0-r.result - 1 ≤ 4
raise c = omega (arith, c.r0-r.ensures, r0_high c.args.d)

amount : (c : After-limit-top) → c.r0-r.result ≤ 5
amount c = omega (arith, c.r0-r.ensures, r0_high c.args.d)

abbrev e : After-limit-top → Expression
e c = let r = c.r0-r.result in let d = c.args.d in
    one_shifted w32 (r - 1) 4 (raise c) tt
    ⊕ (Held (to_z w32 (of_z w32 c.offset-off.result)) (pos (offset d)) 8192 (returned w32 c.offset-off.type_inv c.offset-off.ensures) (offset_high d) ⊝ Lit (pos 16384)) ⊗ one_shifted w32 r 5 (amount c) tt

abbrev top : After-limit-top → Expression
top c = Held (to_z w32 (of_z w32 c.limit-top.result)) (pos (limit c.args.d)) 32767 (returned w32 c.limit-top.type_inv c.limit-top.ensures) (limit_high c.args.d) ⊝ Lit (pos 16384)

added : {x : ℤ} {r : ℕ} (d : Depth) → r ≡ r0 d → x ≡ pos (2 ^ (r - 1)) +ℤ (pos (offset d) -ℤ pos 16384) *ℤ pos (2 ^ r) → x ≡ pos (2 ^ (r0 d - 1)) +ℤ bias d *ℤ pos (2 ^ r0 d)
unfolding bias
added d p q = q ∙ ap (λ r. pos (2 ^ (r - 1)) +ℤ (pos (offset d) -ℤ pos 16384) *ℤ pos (2 ^ r)) p

pub returns-clause-add_value : goal.returns-clause-add_value
returns-clause-add_value c = let p = c.r0-r.ensures in (added c.args.d p (is_exact w32 (e c.before) tt), p)

pub invariant_of-result : goal.invariant_of-result
invariant_of-result c = let d = c.args.d in let p = c.r0-r.ensures in record { mild = across_mild d (added d p (is_exact w32 (e c) tt)) p refl (is_exact w32 (top c) tt) }
