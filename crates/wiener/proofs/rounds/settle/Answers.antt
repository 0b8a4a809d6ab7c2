-- The sum fits by its sizes; the two ends of the clip, one after the other, are the definition's clip.
use mathlib.Core.Path.{◌∙◌}
use mathlib.Core.Bool.{cond}
use native.Mathlib.Omega.{arith}
use Prim.Native.Nat.{◌≤◌, ◌<◌}
use lib.IntN.{ℤ, nat_abs}
use lib.Signed.{mag, lt_z}
use mir.Syntax.{w32}
use Rattle.laws.specs.Congruence.{ap2}
use Rattle.laws.specs.SignedCode.{Expression, Var, ◌⊕◌, ShrBy, lhs, safe, is_exact}
use Rattle.laws.specs.ReadBack.{returned}
use Rattle.laws.specs.Sizes.{abs_mag}
use Rattle.wiener.specs.declared.Rounding.{Rounding}
use Rattle.wiener.specs.Passes.{settled}
use Rattle.wiener.proofs.PassLaws.{clip_ends}
use Rattle.wiener.proofs.rounds.settle.Goals as goal

-- z + add, shifted
abbrev shifted : (z : ℤ) (a : Rounding) → nat_abs z ≤ 16777216 → Expression
shifted z a p = ShrBy (Var z 16777216 p ⊕ Var a.add 16777216 a.mild.add_size) a.shift

-- an end of the clip
abbrev end : (z : ℤ) → mag z < 32768 → Expression
end z h = Var z 32768 (omega (arith, abs_mag z))

pub overflow_add-z : goal.overflow_add-z
overflow_add-z c = safe w32 (lhs (shifted c.args.z c.args.a c.requires.z_bound)) tt

pub overflow_cast-a : goal.overflow_cast-a
overflow_cast-a c = omega (arith, c.args.a.mild.shift_size)

pub overflow_shr-z : goal.overflow_shr-z
overflow_shr-z c = omega (arith, c.args.a.mild.shift_size)

pub returns : goal.returns
unfolding settled
returns c =
    let m = c.args.a.mild in
    returned w32 c.max.type_inv (c.max.ensures.value
    ∙ ap2 (λ n l. cond (lt_z l n) n l) (returned w32 c.min.type_inv (c.min.ensures.value ∙ ap2 (λ v h. cond (lt_z h v) h v) (is_exact w32 (shifted c.args.z c.args.a c.requires.z_bound) tt) (is_exact w32 (end c.args.a.high m.high_size) tt))) (is_exact w32 (end c.args.a.low m.low_size) tt)
    ∙ clip_ends _ _ _ m.order)
