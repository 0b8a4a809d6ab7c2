-- Sums as a loop has them, of equal terms, from the front, and their bound.
use mathlib.Core.Path.{◌≡◌, refl, sym, ap, ◌∙◌}
use Prim.Native.Nat.{ℕ, zero, suc, ◌+◌, ◌*◌, ◌≤◌, ◌<◌}
use native.Mathlib.Omega.{arith}
use native.Mathlib.Numerals.{add-one}
use lib.IntN.{ℤ, ◌+ℤ◌, ◌*ℤ◌, zero-*ℤ}
use Rattle.laws.specs.Congruence.{ap2}
use Rattle.laws.specs.Integers.{*ℤ_dist_r}
use Rattle.standard.specs.Arithmetic.{sum, sum_ℤ}

pub sum_none : (f : ℕ → ℕ) → 0 ≡ sum 0 f
unfolding sum
sum_none f = refl

-- one more turn, as the code's `k + 1` has it
pub sum_more : (f : ℕ → ℕ) (k acc v : ℕ) → acc ≡ sum k f → v ≡ f k → acc + v ≡ sum (k + 1) f
unfolding sum
sum_more f k acc v p q = rw (add-one, p, q)

pub sum_small : (n m : ℕ) (f : ℕ → ℕ) → ((k : ℕ) → k < n → f k ≤ m) → sum n f ≤ n * m
unfolding sum
sum_small zero m f h = omega arith
sum_small (suc n) m f h = omega (arith, sum_small n m f (λ k p. h k (omega arith)), h n (omega arith))

pub sum_same : (n : ℕ) (f g : ℕ → ℕ) → ((k : ℕ) → k < n → f k ≡ g k) → sum n f ≡ sum n g
unfolding sum
sum_same zero f g h = refl
sum_same (suc n) f g h = ap2 ◌+◌ (sum_same n f g (λ k p. h k (omega arith))) (h n (omega arith))

pub sum_ℤ_same : (n : ℕ) (f g : ℕ → ℤ) → ((k : ℕ) → k < n → f k ≡ g k) → sum_ℤ n f ≡ sum_ℤ n g
unfolding sum_ℤ
sum_ℤ_same zero f g h = refl
sum_ℤ_same (suc n) f g h = ap2 ◌+ℤ◌ (sum_ℤ_same n f g (λ k p. h k (omega arith))) (h n (omega arith))

pub sum_front : (n : ℕ) (f : ℕ → ℕ) → sum (suc n) f ≡ f 0 + sum n (λ k. f (suc k))
unfolding sum
sum_front zero f = omega arith
sum_front (suc n) f = ap (λ m. m + f (suc n)) (sum_front n f) ∙ omega arith

-- a common factor
pub sum_times : (n : ℕ) (f : ℕ → ℤ) (z : ℤ) → sum_ℤ n (λ k. f k *ℤ z) ≡ sum_ℤ n f *ℤ z
unfolding sum_ℤ
sum_times zero f z = sym (zero-*ℤ z)
sum_times (suc n) f z = ap (λ a. a +ℤ f n *ℤ z) (sum_times n f z) ∙ sym (*ℤ_dist_r (sum_ℤ n f) (f n) z)
