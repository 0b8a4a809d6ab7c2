-- From numbers as they are read to the records.
use Rattle.std.proofs.Common.{◌≡◌, ◌∙◌, ℕ, ℤ, nat_abs}
use Rattle.laws.specs.Congruence.{ap3}
use Rattle.standard.specs.declared.Taps.{Taps}
use Rattle.standard.specs.declared.Weights.{Weights}

abbrev taps : ℤ → ℤ → ℤ → ℤ → ℤ → ℤ → Taps
taps v0 v1 v2 h0 h1 h2 = record { v0 = v0; v1 = v1; v2 = v2; h0 = h0; h1 = h1; h2 = h2 }

abbrev weights : ℕ → ℤ → ℤ → Weights
weights set w0 w1 = record { set = set; w0 = w0; w1 = w1 }

pub same_taps : {a b c d e f a' b' c' d' e' f' : ℤ} → a ≡ a' → b ≡ b' → c ≡ c' → d ≡ d' → e ≡ e' → f ≡ f' → taps a b c d e f ≡ taps a' b' c' d' e' f'
same_taps {d} {e} {f} {a'} {b'} {c'} p q r s t u = ap3 (λ x y z. taps x y z d e f) p q r ∙ ap3 (taps a' b' c') s t u

pub same_weights : {s a b s' a' b' : ℤ} → s ≡ s' → a ≡ a' → b ≡ b' → weights (nat_abs s) a b ≡ weights (nat_abs s') a' b'
same_weights p q r = ap3 (λ x y z. weights (nat_abs x) y z) p q r
