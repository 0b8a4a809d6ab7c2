-- Two sums of a2 and two of b2.
use Prim.Native.Nat.{◌+◌, ◌*◌, ◌/◌}
use mathlib.Core.Path.{◌∙◌}
use Rattle.laws.specs.Congruence.{ap2}
use Rattle.standard.specs.Arithmetic.{round_ℕ}
use Rattle.selfguided.proofs.FinalLaws.{and_small, even_F_small}
use Rattle.selfguided.proofs.filtered.EvenRowFilter.at.Goals as goal

pub returns : goal.returns
unfolding round_ℕ
returns c = and_small
    (ap2 (λ x y. (x + y + 256) / 512) (c.times.ensures ∙ ap2 (λ x y. (x + y) * c.args.u) c.word.ensures c.word-2.ensures) (ap2 (λ x y. x + y) c.word-3.ensures c.word-4.ensures))
    (even_F_small c.args.n c.args.u c.requires.0 c.requires.1)
