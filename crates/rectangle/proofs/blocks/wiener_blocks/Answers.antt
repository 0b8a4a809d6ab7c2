-- The columns so far are painted, and one more block paints on to the right; the last is as wide as what is left.
use Prim.Native.Nat.{ℕ, ◌+◌, ◌-◌, ◌*◌, ◌/◌}
use mathlib.Core.Path.{◌∙◌, ap}
use native.Mathlib.Omega.{arith}
use lib.IntN.{ℤ, pos}
use Rattle.laws.specs.Paint.{paint}
use Rattle.standard.specs.Wiener.{wiener}
use Rattle.rectangle.specs.View.{view_at}
use Rattle.rectangle.proofs.BlockLaws.{paint_none, paint_on}
use Rattle.rectangle.proofs.blocks.wiener_blocks.Goals as goal

pub loop-b-init : goal.loop-b-init
loop-b-init c = let a = c.args in let f : ℕ → ℕ → ℤ = λ y x. pos (wiener a.v.depth a.taps.now.t (view_at a.v.inside.now a.v.beside.now a.v.w a.v.h a.v.source y x)) in
    paint_none {A = ℤ} a.r.x a.r.y a.r.h a.v.w f a.out.now

pub loop-b-preserved : goal.loop-b-preserved
loop-b-preserved c = let a = c.args in let at = c.loop-b.b * 64 in let f : ℕ → ℕ → ℤ = λ y x. pos (wiener a.v.depth a.taps.now.t (view_at a.v.inside.now a.v.beside.now a.v.w a.v.h a.v.source y x)) in
    paint_on {A = ℤ} a.r.x a.r.y at 64 a.r.h a.v.w f a.out.now c.loop-b.out _ c.loop-b.invariant c.wiener_block.ensures (omega arith)
    ∙ ap (λ n. paint a.r.x a.r.y n a.r.h a.v.w f a.out.now) {x = at + 64} {y = (c.loop-b.b + 1) * 64} (omega arith)

pub returns : goal.returns
returns c = let a = c.args in let at = (a.r.w - 1) / 64 * 64 in let f : ℕ → ℕ → ℤ = λ y x. pos (wiener a.v.depth a.taps.now.t (view_at a.v.inside.now a.v.beside.now a.v.w a.v.h a.v.source y x)) in
    paint_on {A = ℤ} a.r.x a.r.y at (a.r.w - at) a.r.h a.v.w f a.out.now c.loop-b.out _ (c.loop-b.invariant ∙ ap (λ n. paint a.r.x a.r.y n a.r.h a.v.w f a.out.now) {x = c.loop-b.b * 64} {y = at} (omega (arith, c.loop-b.auto.b-end, c.loop-b-test.false))) c.wiener_block-2.ensures (omega (arith, c.requires.w_in_bounds.6.right))
    ∙ ap (λ n. paint a.r.x a.r.y n a.r.h a.v.w f a.out.now) {x = at + (a.r.w - at)} {y = a.r.w} (omega arith)
