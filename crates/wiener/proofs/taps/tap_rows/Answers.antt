-- Four runs, each over the last: the definition itself.
use mathlib.Core.Path.{◌∙◌, ap}
use Prim.Native.Nat.{ℕ}
use lib.IntN.{ℤ, pos}
use lib.ListN.{get_or}
use Rattle.laws.specs.Runs.{stamp}
use Rattle.wiener.specs.Passes.{tap_rows}
use Rattle.wiener.proofs.taps.tap_rows.Goals as goal

pub returns : goal.returns
unfolding tap_rows
returns c = let a : ℕ → ℤ = λ k. get_or c.args.c.now k (pos 0) in let w = c.args.w in record {
  tr_after =
      c.repeat_narrow-4.ensures
      ∙ ap (stamp (λ _. a 3) 192 w) (c.repeat_narrow-3.ensures
      ∙ ap (stamp (λ _. a 2) 128 w) (c.repeat_narrow-2.ensures
      ∙ ap (stamp (λ _. a 1) 64 w) c.repeat_narrow.ensures));
}
