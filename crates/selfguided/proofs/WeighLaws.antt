-- The weighted sums as code takes them, and their bounds.
use mathlib.Core.Path.{◌≡◌, ap}
use mathlib.Core.List.{List}
use Prim.Native.Nat.{ℕ, ◌+◌, ◌-◌, ◌*◌, ◌≤◌, ◌<◌}
use native.Mathlib.Omega.{arith}
use native.Mathlib.Nat.{mul-le-mul_right, le_of_suc-le-suc, add-zero}
use lib.IntN.{ℤ}
use Rattle.laws.specs.Bounds.{Samples, samples_part}
use Rattle.standard.specs.Arithmetic.{sum}
use Rattle.standard.specs.Wiener.{Grid}
use Rattle.standard.specs.SelfGuided.{weight}
use Rattle.boxes.specs.Reads.{sample_at, seen, sums}
use Rattle.boxes.proofs.SumLaws.{sum3_is, sums_small}
use Rattle.selfguided.specs.Weighing.{five_six, crossed}

-- ---- 5-6-5
pub six_is : (s : List ℤ) (i : ℕ) → 5 * (sample_at s i + sample_at s (i + 2)) + 6 * sample_at s (i + 1) ≡ five_six (λ k. sample_at s (i + k))
unfolding five_six
six_is s i = omega (arith, ap (sample_at s) (add-zero i))

pub six_same : (f g : ℕ → ℕ) → ((k : ℕ) → k < 3 → f k ≡ g k) → five_six f ≡ five_six g
unfolding five_six
six_same f g h = omega (arith, h 0 (omega arith), h 1 (omega arith), h 2 (omega arith))

pub six_small : (m : ℕ) (f : ℕ → ℕ) → ((k : ℕ) → k < 3 → f k ≤ m) → five_six f ≤ 16 * m
unfolding five_six
six_small m f h = omega (arith, h 0 (omega arith), h 1 (omega arith), h 2 (omega arith))

-- ---- 4 on the cross, 3 at the corners
pub crossed_small : (m : ℕ) (g : Grid) → ((i j : ℕ) → i < 3 → j < 3 → g i j ≤ m) → crossed g ≤ 32 * m
unfolding crossed sum weight
crossed_small m g h = omega (arith, h 0 0 (omega arith) (omega arith), h 0 1 (omega arith) (omega arith), h 0 2 (omega arith) (omega arith), h 1 0 (omega arith) (omega arith), h 1 1 (omega arith) (omega arith), h 1 2 (omega arith) (omega arith), h 2 0 (omega arith) (omega arith), h 2 1 (omega arith) (omega arith), h 2 2 (omega arith) (omega arith))

pub crossed_same : (f g : Grid) → ((i j : ℕ) → i < 3 → j < 3 → f i j ≡ g i j) → crossed f ≡ crossed g
unfolding crossed sum weight
crossed_same f g h = omega (arith, h 0 0 (omega arith) (omega arith), h 0 1 (omega arith) (omega arith), h 0 2 (omega arith) (omega arith), h 1 0 (omega arith) (omega arith), h 1 1 (omega arith) (omega arith), h 1 2 (omega arith) (omega arith), h 2 0 (omega arith) (omega arith), h 2 1 (omega arith) (omega arith), h 2 2 (omega arith) (omega arith))

module _ (s : List ℤ) (i st : ℕ) where
  cell00 : sample_at s (i + 0 * st + 0) ≡ sample_at s (i)
  cell00 = ap (sample_at s) (omega arith)

  cell01 : sample_at s (i + 0 * st + 1) ≡ sample_at s (i + 1)
  cell01 = ap (sample_at s) (omega arith)

  cell02 : sample_at s (i + 0 * st + 2) ≡ sample_at s (i + 2)
  cell02 = ap (sample_at s) (omega arith)

  cell10 : sample_at s (i + 1 * st + 0) ≡ sample_at s (i + st)
  cell10 = ap (sample_at s) (omega arith)

  cell11 : sample_at s (i + 1 * st + 1) ≡ sample_at s (i + st + 1)
  cell11 = ap (sample_at s) (omega arith)

  cell12 : sample_at s (i + 1 * st + 2) ≡ sample_at s (i + st + 2)
  cell12 = ap (sample_at s) (omega arith)

  cell20 : sample_at s (i + 2 * st + 0) ≡ sample_at s (i + 2 * st)
  cell20 = ap (sample_at s) (omega arith)

  cell21 : sample_at s (i + 2 * st + 1) ≡ sample_at s (i + 2 * st + 1)
  cell21 = ap (sample_at s) (omega arith)

  cell22 : sample_at s (i + 2 * st + 2) ≡ sample_at s (i + 2 * st + 2)
  cell22 = ap (sample_at s) (omega arith)

  pub cross_is : 4 * (sums 3 s i 1 + sums 3 s (i + st) 1 + sums 3 s (i + 2 * st) 1) - (sample_at s i + sample_at s (i + 2) + (sample_at s (i + 2 * st) + sample_at s (i + 2 * st + 2))) ≡ crossed (seen st s i)
  unfolding crossed seen sum weight
  cross_is = omega (arith, sum3_is s i 1, sum3_is s (i + st) 1, sum3_is s (i + 2 * st) 1, cell00, cell01, cell02, cell10, cell11, cell12, cell20, cell21, cell22)

pub cross_small : {m a hi : ℕ} {s : List ℤ} (st : ℕ) → Samples m a hi s → a + 2 * st + 3 ≤ hi → crossed (seen st s a) ≤ 32 * m
unfolding seen
cross_small {m} {a} {hi} {s} st p q = crossed_small m (λ y x. sample_at s (a + y * st + x)) (λ y x u v. p.size (a + y * st + x) (omega arith) (omega (arith, mul-le-mul_right st (le_of_suc-le-suc u))))

-- what a place's three sums along a row come to, for b2
pub cross_sums : {i : ℕ} (st : ℕ) {s : List ℤ} → Samples 1045245 i (i + 2 * st + 3) s → (sums 3 s i 1 ≤ 3135735) × (sums 3 s (i + st) 1 ≤ 3135735) × (sums 3 s (i + 2 * st) 1 ≤ 3135735)
cross_sums {i} st {s} p = (row i (omega arith) (omega arith), row (i + st) (omega arith) (omega arith), row (i + 2 * st) (omega arith) (omega arith))
  where
    row : (k : ℕ) → i ≤ k → k + 3 ≤ i + 2 * st + 3 → sums 3 s k 1 ≤ 3135735
    row k a b = sums_small (samples_part k (k + 3) p a b) 2 1 (omega arith)
