-- The row of the pass, each value by the law that it is the standard's.
use Prim.Native.Nat.{◌+◌}
use mathlib.Core.Path.{sym, ◌∙◌, ap, subst}
use mathlib.Core.List.{List}
use native.Mathlib.Omega.{arith}
use lib.IntN.{ℤ}
use Rattle.std.proofs.lemmas.List.{map-id}
use Rattle.laws.specs.Runs.{stamp, stamp_same}
use Rattle.wiener.specs.Passes.{Halves, seven, settled}
use Rattle.wiener.proofs.TapLaws.{small_horizontal, narrow_rows, narrow_part}
use Rattle.wiener.proofs.SumLaws.{halves_part}
use Rattle.wiener.proofs.PassLaws.{across_numbers, across_value, samples_halves}
use Rattle.wiener.proofs.across.across_row.Goals as goal

pub settled_sums-requires : goal.settled_sums-requires
settled_sums-requires c = let s = c.args in let p = c.requires in record {
  n_in_bounds = (omega arith, omega arith, omega (arith, s.taps.now.few));
  halves = subst (Halves _ _) (sym (map-id _)) (halves_part _ _ (samples_halves s.d p.samples) (omega arith) (omega arith));
  narrow_rows = narrow_part _ (omega arith) (narrow_rows (small_horizontal s.taps.now.legal) s.taps.now.rows);
}

pub returns : goal.returns
returns c = let s = c.args in
    sym (map-id _) ∙ c.settled_sums.ensures ∙ ap (stamp _ s.to s.n) (map-id s.s.now)
    ∙ stamp_same _ _ _ _ _ (λ x h. ap (λ (l : List ℤ). settled c.across_rounding.result (seven s.taps.now.tr.now x l (s.from + x) 1)) (map-id s.src.now) ∙ across_value s.taps.now.t (across_numbers c.across_rounding.ensures.add_value c.across_rounding.ensures.low_value) s.taps.now.rows c.requires.samples x (s.from + x) (omega arith) (omega arith) (omega arith))
