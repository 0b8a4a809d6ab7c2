-- The weights are legal, so their difference from 128 fits; the rest is read back.
use mathlib.Core.Path.{refl, sym, ◌∙◌}
use lib.IntN.{pos, ◌-ℤ◌}
use mir.Syntax.{w32}
use Rattle.laws.specs.Congruence.{ap2}
use Rattle.laws.specs.SignedCode.{Expression, ranged, Lit, ◌⊝◌, is_exact, bounded}
use Rattle.laws.specs.ReadBack.{returned, abs_at}
use Rattle.selfguided.proofs.projection.mix_of.Lts as lts
use Rattle.selfguided.proofs.projection.mix_of.Reads as reads
use Rattle.selfguided.proofs.projection.mix_of.Tie as tie
use Rattle.selfguided.proofs.projection.mix_of.Goals as goal

module _ (s : lts.Start tie.the-claims reads.Pre reads.Post) where
  abbrev first : Expression
  first = ranged s.args.weights.w0 s.requires.w0_low s.requires.w0_high

  abbrev second : Expression
  second = ranged s.args.weights.w1 s.requires.w1_low s.requires.w1_high

  abbrev third : Expression
  third = Lit (pos 128) ⊝ first ⊝ second

pub returns : goal.returns
returns c = let s = c.before.before.before.before in (refl, is_exact w32 (first s) tt, is_exact w32 (second s) tt)

pub invariant_of-result : goal.invariant_of-result
invariant_of-result c = let s = c.before.before.before in record {
  mixed = record {
    w0_size = abs_at (is_exact w32 (first s) tt) (bounded (first s));
    w2_size = abs_at (is_exact w32 (third s) tt) (bounded (third s));
    w2_is = is_exact w32 (third s) tt ∙ sym (ap2 (λ x y. pos 128 -ℤ x -ℤ y) (is_exact w32 (first s) tt) (is_exact w32 (second s) tt));
    top_is = returned w32 c.largest.type_inv c.largest.ensures;
  };
}
