-- A sum of a2 and a sum of b2.
use Prim.Native.Nat.{◌+◌, ◌*◌, ◌/◌}
use mathlib.Core.Path.{◌∙◌, ap}
use Rattle.laws.specs.Congruence.{ap2}
use Rattle.standard.specs.Arithmetic.{round_ℕ}
use Rattle.selfguided.proofs.FinalLaws.{and_small, odd_F_small}
use Rattle.selfguided.proofs.filtered.OddRowFilter.at.Goals as goal

pub returns : goal.returns
unfolding round_ℕ
returns c = and_small
    (ap2 (λ x y. (x + y + 128) / 256) (c.times.ensures ∙ ap (λ x. x * c.args.u) c.word.ensures) c.word-2.ensures)
    (odd_F_small c.args.u c.requires.0 c.requires.1)
