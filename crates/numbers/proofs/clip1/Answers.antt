-- Clip1 is the clamp of the number to 0 .. top.
use mathlib.Core.Path.{sym, ◌∙◌}
use lib.IntN.{pos, nat_abs}
use lib.Signed.{yes_non_neg, pos-nat_abs}
use mir.Facts.{to_z-of_z}
use mir.Syntax.{w32}
use Rattle.laws.specs.Congruence.{ap2}
use Rattle.laws.specs.ReadBack.{returned}
use Rattle.std.specs.Int.{int_max, int_min}
use Rattle.numbers.proofs.Clip.{clamped}
use Rattle.numbers.proofs.clip1.Goals as goal

pub returns : goal.returns
returns c =
    let top = to_z-of_z c.ranges.top ∙ sym (pos-nat_abs c.args.top (yes_non_neg c.requires)) in
    returned w32 c.clamp.type_inv c.clamp.ensures.value ∙ ap2 (λ x t. int_max (pos 0) (int_min x t)) (to_z-of_z c.ranges.x) top ∙ clamped c.args.x (nat_abs c.args.top)
