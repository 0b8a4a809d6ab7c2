-- The window of the scratch as a grid: seen from another place, in a list that has kept it, and in range.
use mathlib.Core.Path.{◌≡◌, sym, ◌∙◌, ap, subst}
use mathlib.Core.List.{List}
use Prim.Native.Nat.{ℕ, ◌+◌, ◌*◌, ◌≤◌, ◌<◌}
use mathlib.Core.Logic.{◌⊎◌}
use native.Mathlib.Omega.{arith}
use native.Mathlib.Nat.{eq-or-lt_of_le}
use lib.IntN.{ℤ, nat_abs}
use Rattle.laws.specs.Index.{cell_lt}
use Rattle.laws.specs.Bounds.{Samples}
use Rattle.boxes.specs.Reads.{sample_at, seen}
use Rattle.boxes.specs.BoxRows.{Kept}
use Rattle.selfguided.specs.Areas.{lines}

-- from row p, column q of a list that has the same window
pub seen_from : (w h from p q : ℕ) {s t : List ℤ} → Kept 0 (lines w h) s t → from ≡ p * (w + 6) + q → (i j : ℕ) → p + i < h + 6 → q + j < w + 6 →
    seen (w + 6) t from i j ≡ seen (w + 6) s 0 (p + i) (q + j)
unfolding seen
seen_from w h from p q {s} {t} K e i j u v =
    ap (sample_at t) index ∙ ap nat_abs (K.same (0 + (p + i) * (w + 6) + (q + j)) (omega arith) (omega (arith, cell_lt {y = p + i} {x = q + j} {h = h + 6} {w = w + 6} u v)))
  where
    index : from + i * (w + 6) + j ≡ 0 + (p + i) * (w + 6) + (q + j)
    index = omega arith

pub seen_small : (w h m : ℕ) {s : List ℤ} → Samples m 0 (lines w h) s → (i j : ℕ) → i < h + 6 → j < w + 6 → seen (w + 6) s 0 i j ≤ m
unfolding seen
seen_small w h m S i j u v = S.size (0 + i * (w + 6) + j) (omega arith) (omega (arith, cell_lt {y = i} {x = j} {h = h + 6} {w = w + 6} u v))

-- a row of n + 1 is the last or one of those before
pub last_or : {k n : ℕ} → k < n + 1 → (k ≡ n) ⊎ (k < n)
last_or {k} {n} h = eq-or-lt_of_le (omega arith)

-- what holds at three places holds at numbers equal to them, and back
pub at_places : (P : ℕ → ℕ → ℕ → Type 0) {l a b l' a' b' : ℕ} → l ≡ l' → a ≡ a' → b ≡ b' → P l' a' b' → P l a b
at_places P {a = a} {b = b} {l' = l'} {a' = a'} p q r h = subst (λ (x : ℕ). P x a b) (sym p) (subst (λ (x : ℕ). P l' x b) (sym q) (subst (P l' a') (sym r) h))

pub of_places : (P : ℕ → ℕ → ℕ → Type 0) {l a b l' a' b' : ℕ} → l ≡ l' → a ≡ a' → b ≡ b' → P l a b → P l' a' b'
of_places P p q r h = at_places P (sym p) (sym q) (sym r) h
