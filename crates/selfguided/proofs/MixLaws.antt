-- The projection with two products is the definition's with three.
use mathlib.Core.Path.{◌≡◌, ◌∙◌, ap}
use mathlib.Core.List.{[], ◌∷◌}
use lib.IntN.{ℤ, pos, ◌+ℤ◌, ◌-ℤ◌, ◌*ℤ◌}
use Rattle.laws.specs.Polynomial.{X, C, ◌⊹◌, ◌∸ₚ◌, ◌⋆◌, identity}

pub two_products : (w0 w1 w2 v f0 f1 : ℤ) → w2 ≡ pos 128 -ℤ w0 -ℤ w1 →
    pos 128 *ℤ v +ℤ w0 *ℤ (f0 -ℤ v) +ℤ w2 *ℤ (f1 -ℤ v) ≡ w1 *ℤ v +ℤ w0 *ℤ f0 +ℤ (pos 128 -ℤ w0 -ℤ w1) *ℤ f1
two_products w0 w1 w2 v f0 f1 e =
    ap (λ (k : ℤ). pos 128 *ℤ v +ℤ w0 *ℤ (f0 -ℤ v) +ℤ k *ℤ (f1 -ℤ v)) e
    ∙ identity (w0 ∷ w1 ∷ v ∷ f0 ∷ f1 ∷ [])
    (C (pos 128) ⋆ X 2 ⊹ X 0 ⋆ (X 3 ∸ₚ X 2) ⊹ (C (pos 128) ∸ₚ X 0 ∸ₚ X 1) ⋆ (X 4 ∸ₚ X 2))
    (X 1 ⋆ X 2 ⊹ X 0 ⋆ X 3 ⊹ (C (pos 128) ∸ₚ X 0 ∸ₚ X 1) ⋆ X 4) tt
