-- The middle area is small and the vertical pass over it is the filter: the laws of the window, at what the calls ensure.
use mathlib.Core.Path.{sym, ◌∙◌, ap}
use Prim.Native.Nat.{◌+◌, ◌*◌}
use lib.IntN.{pos}
use Rattle.laws.specs.Rows.{rows, rows_same}
use Rattle.standard.specs.declared.Taps.{Taps}
use Rattle.standard.specs.Wiener.{wiener}
use Rattle.wiener.specs.Passes.{down_at, seen}
use Rattle.wiener.proofs.WindowLaws.{sampled, window_rows, area_halves, window_value}
use Rattle.wiener.proofs.window.wiener_window.Goals as goal

pub down_window-requires-clause-halves : goal.down_window-requires-clause-halves
down_window-requires-clause-halves c = let a = c.args in let t = c.across.result.t in
    area_halves a.d t (sampled a.win.now a.at a.stride) a.s.now _ a.w a.h (window_rows a.d t a.s.now a.win.now a.at a.stride a.w (a.h + 6) c.across_window.ensures) c.requires.w_in_bounds.2

pub returns : goal.returns
returns c = let a = c.args in let t = c.across.result.t in
    c.down_window.ensures
    ∙ ap (λ (t : Taps). rows (λ i x. down_at a.d t c.across_window.new.s (i * a.w + x) a.w) a.to a.out_stride a.w a.h a.out.now) (c.down.ensures.0 ∙ sym c.across.ensures.0)
    ∙ rows_same _ _ _ _ _ _ _ (window_value a.d t (sampled a.win.now a.at a.stride) a.s.now _ a.w a.h (window_rows a.d t a.s.now a.win.now a.at a.stride a.w (a.h + 6) c.across_window.ensures) c.requires.w_in_bounds.2)
    ∙ ap (λ (t : Taps). rows (λ i j. pos (wiener a.d t (seen a.win.now a.at a.stride i j))) a.to a.out_stride a.w a.h a.out.now) (c.across.ensures.0 ∙ c.new-taps.ensures.0)
