-- Equal arguments give equal values: `ap` at two to five arguments.
use Rattle.std.specs.Prelude.{◌≡◌}
use Rattle.std.proofs.Common.{ap, ◌∙◌}

pub ap2 {ℓ} : {A B : Type 0} {C : Type ℓ} (f : A → B → C) {a a' : A} {b b' : B} → a ≡ a' → b ≡ b' → f a b ≡ f a' b'
ap2 f {a' = a'} {b = b} p q = ap (λ x. f x b) p ∙ ap (f a') q

pub ap3 {ℓ} : {A B D : Type 0} {C : Type ℓ} (f : A → B → D → C) {a a' : A} {b b' : B} {d d' : D} → a ≡ a' → b ≡ b' → d ≡ d' → f a b d ≡ f a' b' d'
ap3 f {a' = a'} {b = b} {d = d} p q s = ap (λ x. f x b d) p ∙ ap2 (f a') q s

pub ap4 {ℓ} : {A B D E : Type 0} {C : Type ℓ} (f : A → B → D → E → C) {a a' : A} {b b' : B} {d d' : D} {e e' : E} → a ≡ a' → b ≡ b' → d ≡ d' → e ≡ e' → f a b d e ≡ f a' b' d' e'
ap4 f {a' = a'} {b = b} {d = d} {e = e} p q s t = ap (λ x. f x b d e) p ∙ ap3 (f a') q s t

pub ap5 {ℓ} : {A B D E F : Type 0} {C : Type ℓ} (f : A → B → D → E → F → C) {a a' : A} {b b' : B} {d d' : D} {e e' : E} {g g' : F} → a ≡ a' → b ≡ b' → d ≡ d' → e ≡ e' → g ≡ g' → f a b d e g ≡ f a' b' d' e' g'
ap5 f {a' = a'} {b = b} {d = d} {e = e} {g = g} p q s t u = ap (λ x. f x b d e g) p ∙ ap4 (f a') q s t u
