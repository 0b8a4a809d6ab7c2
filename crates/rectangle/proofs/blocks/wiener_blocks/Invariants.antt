-- The columns so far are painted, and one more block paints on to the right; the last is as wide as what is left.
use Prim.Native.Nat.{◌*◌}
use mathlib.Core.Path.{◌≡◌}
use lib.IntN.{pos}
use Rattle.laws.specs.Paint.{paint}
use Rattle.standard.specs.Wiener.{wiener}
use Rattle.rectangle.specs.View.{view_at}
use Rattle.rectangle.proofs.blocks.wiener_blocks.Given as goal

abbrev pub invariant-loop-b : goal.invariant-loop-b
invariant-loop-b l = l.out ≡ paint l.r.x l.r.y (l.b * 64) l.r.h l.v.w (λ y x. pos (wiener l.v.depth l.taps.t (view_at l.v.inside.now l.v.beside.now l.v.w l.v.h l.v.source y x))) l.initial.out
