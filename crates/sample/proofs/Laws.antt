-- From the filters over a window of one result to the sample's definition.
use mathlib.Core.Path.{◌≡◌, sym, ◌∙◌, ap}
use mathlib.Core.List.{List, [], ◌∷◌}
use Prim.Native.Nat.{ℕ, ◌+◌, ◌*◌, ◌%◌}
use native.Mathlib.Omega.{arith}
use lib.IntN.{ℤ, pos, nat_abs}
use lib.ListN.{length, get_or}
use Rattle.laws.specs.Congruence.{ap5}
use Rattle.laws.specs.Rows.{rows, rows_inside}
use Rattle.standard.specs.declared.Depth.{Depth}
use Rattle.standard.specs.declared.Taps.{Taps}
use Rattle.standard.specs.declared.Weights.{Weights}
use Rattle.standard.specs.declared.Kind.TheVariants.{Wiener, SelfGuided}
use Rattle.standard.specs.Fetch.{restored}
use Rattle.standard.specs.Wiener.{wiener}
use Rattle.standard.specs.SelfGuided.{self_guided}
use Rattle.standard.proofs.Locality.{restored_local}
use Rattle.standard.proofs.Parity.{restored_parity}
use Rattle.wiener.specs.Passes.{seen}
use Rattle.selfguided.specs.Windows.{Rows}
use Rattle.sample.specs.Seen.{seen_at}

-- ---- the one result
pub only : (f : ℕ → ℕ → ℤ) (d l : List ℤ) → l ≡ rows f 0 1 1 1 d → length d ≡ 1 → get_or l 0 (pos 0) ≡ f 0 0
only f d l e h = ap (λ (t : List ℤ). get_or t 0 (pos 0)) e ∙ rows_inside f 0 1 1 1 d 0 0 (pos 0) (omega arith) (omega arith) (omega arith) (λ k p. omega arith)

pub one_row : (out : List ℤ) → length out ≡ 1 → Rows 0 1 1 1 out
one_row out h = record { fits = λ i p. omega arith }

-- ---- the window
pub wiener_seen : (d : Depth) (t : Taps) (s : List ℤ) → wiener d t (seen s 0 7 0 0) ≡ wiener d t (seen_at s)
unfolding restored seen_at
wiener_seen d t s = restored_local (record { same = λ i j p q. ap (λ (k : ℕ). nat_abs (get_or s k (pos 0))) (omega arith) }) d 0 (Wiener t)

pub guided_seen : (d : Depth) (odd row : ℕ) (g : Weights) (s : List ℤ) → odd ≡ row % 2 → self_guided d (odd + 0) g (λ a b. nat_abs (get_or s ((0 + a) * (1 + 6) + (0 + b)) (pos 0))) ≡ self_guided d row g (seen_at s)
unfolding restored seen_at
guided_seen d odd row g s e =
    restored_local (record { same = λ i j p q. ap (λ (k : ℕ). nat_abs (get_or s k (pos 0))) (omega arith) }) d (odd + 0) (SelfGuided g)
    ∙ ap (λ (y : ℕ). restored d y (SelfGuided g) (seen_at s)) (omega (arith, e)) ∙ sym (restored_parity d row (SelfGuided g) (seen_at s))

-- ---- ten numbers as they are read
pub ten : {a b c d e f g h i j a' b' c' d' e' f' g' h' i' j' : ℤ} → a ≡ a' → b ≡ b' → c ≡ c' → d ≡ d' → e ≡ e' → f ≡ f' → g ≡ g' → h ≡ h' → i ≡ i' → j ≡ j' →
    (a ∷ b ∷ c ∷ d ∷ e ∷ f ∷ g ∷ h ∷ i ∷ j ∷ []) ≡ (a' ∷ b' ∷ c' ∷ d' ∷ e' ∷ f' ∷ g' ∷ h' ∷ i' ∷ j' ∷ [])
ten {f} {g} {h} {i} {j} {a'} {b'} {c'} {d'} {e'} p q r s t u v w x y =
    ap5 (λ a b c d e. a ∷ b ∷ c ∷ d ∷ e ∷ f ∷ g ∷ h ∷ i ∷ j ∷ []) p q r s t ∙ ap5 (λ f g h i j. a' ∷ b' ∷ c' ∷ d' ∷ e' ∷ f ∷ g ∷ h ∷ i ∷ j ∷ []) u v w x y
