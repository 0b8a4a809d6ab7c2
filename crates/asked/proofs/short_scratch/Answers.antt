-- The product is the definition's, at the extents and the subsampling of the plane.
use Prim.Native.Nat.{ℕ, ◌+◌, ◌*◌, ◌/◌, ◌^◌, min}
use mathlib.Core.Path.{◌∙◌, ap}
use lib.Dec.{ltb}
use Rattle.laws.specs.Congruence.{ap2}
use Rattle.standard.specs.Refusals.{scratch_need}
use Rattle.asked.proofs.short_scratch.Goals as goal

pub returns : goal.returns
unfolding scratch_need
returns c = ap2 (λ (w h : ℕ). ltb c.args.scratch (6 * (w + 8) * (h + 8))) (c.min-wide.ensures ∙ ap (λ (w : ℕ). min w 383) c.width.ensures.value) (c.min-high.ensures ∙ ap2 (λ (h s : ℕ). min h (64 / 2 ^ s)) c.height.ensures.value c.sub_y.ensures.value)
