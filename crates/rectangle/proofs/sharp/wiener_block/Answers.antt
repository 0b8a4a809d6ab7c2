-- The vertical pass over the middle values is the filter of the view, sample by sample.
use mathlib.Core.Path.{sym, ◌∙◌, ap}
use Prim.Native.Nat.{◌+◌, ◌*◌}
use native.Mathlib.Omega.{arith}
use native.Mathlib.Nat.{add-mul, mul-le-mul_right}
use lib.IntN.{pos}
use lib.ListN.{length}
use Rattle.laws.specs.Rows.{rows, rows_same, rows_length}
use Rattle.standard.specs.declared.Taps.{Taps}
use Rattle.wiener.specs.Passes.{down_at}
use Rattle.standard.specs.Wiener.{wiener}
use Rattle.rectangle.specs.View.{view_at}
use Rattle.wiener.proofs.WindowLaws.{area_halves, window_value}
use Rattle.rectangle.proofs.SharpLaws.{part, wiener_part}
use Rattle.rectangle.proofs.sharp.wiener_block.Goals as goal

pub down_window-requires-clause-w_in_bounds : goal.down_window-requires-clause-w_in_bounds
down_window-requires-clause-w_in_bounds c = let s = c.args in let p = c.requires.w_in_bounds in
    (omega (arith, p.0, add-mul s.r.y s.r.h s.v.w, mul-le-mul_right s.v.w p.6.low, p.6.right), omega (arith, ap length c.across_rows.ensures ∙ rows_length _ _ _ _ _ _), omega arith, omega arith)

pub down_window-requires-clause-halves : goal.down_window-requires-clause-halves
down_window-requires-clause-halves c = let s = c.args in
    area_halves s.v.depth c.across.result.t (part s.v.inside.now s.v.beside.now s.v.w s.v.h s.v.source s.r.x s.r.y) s.s.now c.across_rows.new.s s.r.w s.r.h c.across_rows.ensures c.requires.w_in_bounds.1

pub returns : goal.returns
returns c = let s = c.args in let t = c.across.result.t in
    c.down_window.ensures
    ∙ ap (λ (t : Taps). rows (λ i x. down_at s.v.depth t c.across_rows.new.s (i * s.r.w + x) s.r.w) (s.r.y * s.v.w + s.r.x) s.v.w s.r.w s.r.h s.out.now) (c.down.ensures.0 ∙ sym c.across.ensures.0)
    ∙ rows_same _ _ _ _ _ _ _ (λ i j p q. window_value s.v.depth t (part s.v.inside.now s.v.beside.now s.v.w s.v.h s.v.source s.r.x s.r.y) s.s.now c.across_rows.new.s s.r.w s.r.h c.across_rows.ensures c.requires.w_in_bounds.1 i j p q
    ∙ ap pos (wiener_part s.v.inside.now s.v.beside.now s.v.w s.v.h s.v.source s.r.x s.r.y s.v.depth t i j ∙ ap (λ (t : Taps). wiener s.v.depth t (view_at s.v.inside.now s.v.beside.now s.v.w s.v.h s.v.source (s.r.y + i) (s.r.x + j))) c.across.ensures.0))
