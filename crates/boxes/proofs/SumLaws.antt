-- Sums of samples: written out, of lists that agree, and their bounds.
use mathlib.Core.Path.{◌≡◌, ap}
use mathlib.Core.List.{List}
use Prim.Native.Nat.{ℕ, ◌+◌, ◌*◌, ◌≤◌, ◌<◌}
use native.Mathlib.Omega.{arith}
use native.Mathlib.Nat.{mul-le-mul, mul-le-mul_right, zero-mul, one-mul, add-zero, zero-add}
use lib.IntN.{ℤ, pos, nat_abs}
use lib.ListN.{get_or}
use Rattle.laws.specs.Bounds.{Samples}
use Rattle.standard.specs.Arithmetic.{sum}
use Rattle.standard.proofs.Sums.{sum_same, sum_small}
use Rattle.boxes.specs.Reads.{sample_at, sums, squares}

-- place k of n + 1 places
reach : (k n st : ℕ) → k < n + 1 → k * st ≤ n * st
reach k n st h = mul-le-mul_right st (omega arith)

module _ (s : List ℤ) (i st : ℕ) where
  pub sum3_is : sample_at s i + sample_at s (i + st) + sample_at s (i + 2 * st) ≡ sums 3 s i st
  unfolding sums sum
  sum3_is = simp (zero-mul, one-mul, add-zero, zero-add)

-- of lists that agree below a place
module _ (n : ℕ) (s t : List ℤ) (i st p : ℕ) (far : i + n * st < p) (kept : (k : ℕ) → k < p → get_or s k (pos 0) ≡ get_or t k (pos 0)) where
  pub sums_kept : sums (n + 1) s i st ≡ sums (n + 1) t i st
  unfolding sums
  sums_kept = sum_same (n + 1) _ _ (λ k h. ap nat_abs (kept (i + k * st) (omega (arith, reach k n st h))))

  pub squares_kept : squares (n + 1) s i st ≡ squares (n + 1) t i st
  unfolding squares
  squares_kept = sum_same (n + 1) _ _ (λ k h. ap (λ (z : ℤ). nat_abs z * nat_abs z) (kept (i + k * st) (omega (arith, reach k n st h))))

module _ {m i hi : ℕ} {s : List ℤ} (p : Samples m i hi s) (n st : ℕ) (far : i + n * st < hi) where
  -- the first k of them
  pub sums_first : (k : ℕ) → k ≤ n + 1 → sums k s i st ≤ k * m
  unfolding sums
  sums_first k q = sum_small k m _ (λ j h. p.size (i + j * st) (omega arith) (omega (arith, reach j n st (omega arith))))

  pub squares_first : (k : ℕ) → k ≤ n + 1 → squares k s i st ≤ k * (m * m)
  unfolding squares
  squares_first k q = sum_small k (m * m) _ (λ j h. let q = p.size (i + j * st) (omega arith) (omega (arith, reach j n st (omega arith))) in mul-le-mul q q)

  pub sums_small : sums (n + 1) s i st ≤ (n + 1) * m
  sums_small = sums_first (n + 1) (omega arith)

  pub squares_small : squares (n + 1) s i st ≤ (n + 1) * (m * m)
  squares_small = squares_first (n + 1) (omega arith)
