-- The three samples as the definition weighs them.
use Prim.Native.Nat.{◌+◌, ◌*◌}
use mathlib.Core.Path.{◌∙◌, ap}
use lib.IntN.{pos}
use mir.Syntax.{w32}
use Rattle.laws.specs.Congruence.{ap3}
use Rattle.laws.specs.ReadBack.{returned}
use Rattle.selfguided.proofs.WeighLaws.{six_is}
use Rattle.selfguided.proofs.weighted.six_at.Goals as goal

pub returns : goal.returns
returns c = returned w32 c.signed.type_inv (c.signed.ensures ∙ ap pos (ap3 (λ x y z. 5 * (x + y) + 6 * z) c.word.ensures c.word-2.ensures c.word-3.ensures ∙ six_is c.args.s.now c.args.i))
