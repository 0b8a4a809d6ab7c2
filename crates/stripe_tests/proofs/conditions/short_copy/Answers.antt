-- The product is the definition's, at the extents and the subsampling of the plane.
use Prim.Native.Nat.{ℕ, ◌*◌, ◌/◌, ◌^◌, min}
use mathlib.Core.Path.{◌∙◌}
use lib.Dec.{ltb}
use Rattle.laws.specs.Congruence.{ap2}
use Rattle.standard.specs.Refusals.{copy_need}
use Rattle.stripe_tests.proofs.conditions.short_copy.Goals as goal

pub returns : goal.returns
unfolding copy_need
returns c = ap2 (λ (w n : ℕ). ltb c.args.copy (w * n)) c.width.ensures.value (c.min.ensures ∙ ap2 (λ (h s : ℕ). min h (64 / 2 ^ s)) c.height.ensures.value c.sub_y.ensures.value)
