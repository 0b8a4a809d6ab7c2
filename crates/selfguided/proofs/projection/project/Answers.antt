-- One expression for the code; two products are the three of the definition.
use Prim.Native.Nat.{ℕ, ◌*◌}
use mathlib.Core.Path.{◌∙◌, ap}
use native.Mathlib.Omega.{arith}
use lib.IntN.{ℤ, pos, nat_abs, ◌+ℤ◌}
use lib.Signed.{shr_z}
use mir.Syntax.{w32}
use Rattle.laws.specs.Congruence.{ap2}
use Rattle.laws.specs.SignedCode.{Expression, Var, Nat, Lit, Shr, ◌⊕◌, ◌⊝◌, ◌⊗◌, lhs, rhs, safe, is_exact}
use Rattle.laws.specs.ReadBack.{returned, abs_at}
use Rattle.standard.specs.Arithmetic.{round2, clip_to}
use Rattle.standard.specs.SelfGuided.{project}
use Rattle.boxes.proofs.ScaleLaws.{largest_most}
use Rattle.selfguided.proofs.MixLaws.{two_products}
use Rattle.selfguided.proofs.projection.project.Goals.{Start}
use Rattle.selfguided.proofs.projection.project.Goals as goal

module _ (s : Start) where
  abbrev v : Expression
  v = Nat (16 * s.args.u) 65520 (omega arith)

  -- 128 v + w0 (f0 - v) + w2 (f1 - v) + 1024
  abbrev e : Expression
  e =
      Lit (pos 128) ⊗ v ⊕ Var s.args.m.w0 96 s.args.m.mixed.w0_size ⊗ (Nat s.args.f0 131071 s.requires.1 ⊝ v)
      ⊕ Var s.args.m.w2 319 s.args.m.mixed.w2_size ⊗ (Nat s.args.f1 131071 s.requires.2 ⊝ v) ⊕ Lit (pos 1024)

  abbrev top : Expression
  top = Var s.args.m.top 4095 (abs_at s.args.m.mixed.top_is (largest_most s.args.m.depth))

abbrev s : goal.After-struct_told-3-1 → Start
s c = c.before.before.before

pub overflow_add-v : goal.overflow_add-v
overflow_add-v c = safe w32 (lhs (lhs (e (s c)))) tt

pub overflow_mul-w2 : goal.overflow_mul-w2
overflow_mul-w2 c = safe w32 (rhs (lhs (e (s c)))) tt

pub overflow_add-v-2 : goal.overflow_add-v-2
overflow_add-v-2 c = safe w32 (lhs (e (s c))) tt

pub overflow_add-v-3 : goal.overflow_add-v-3
overflow_add-v-3 c = safe w32 (e (s c)) tt

pub returns : goal.returns
unfolding project round2
returns c = let a = s c.before in let m = a.args.m in
    returned w32 c.clip1.type_inv (c.clip1.ensures ∙ ap pos (ap2 (λ (t : ℕ) (x : ℤ). clip_to t x)
    (ap nat_abs (is_exact w32 (top a) tt ∙ m.mixed.top_is))
    (is_exact w32 (Shr (e a) 11) tt ∙ ap (λ (x : ℤ). shr_z (x +ℤ pos 1024) 2048) (two_products m.w0 m.w1 m.w2 (pos (16 * a.args.u)) (pos a.args.f0) (pos a.args.f1) m.mixed.w2_is))))
