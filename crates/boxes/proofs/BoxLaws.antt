-- The separable sum is the box's: sums down, then across. A grid seen from another place has the same boxes there.
use mathlib.Core.Path.{◌≡◌, refl, sym, ◌∙◌, ap}
use mathlib.Core.List.{List}
use Prim.Native.Nat.{ℕ, zero, suc, ◌+◌, ◌-◌, ◌*◌, ◌≤◌, ◌<◌}
use native.Mathlib.Omega.{arith}
use lib.IntN.{ℤ}
use Rattle.laws.specs.Congruence.{ap2}
use Rattle.standard.specs.declared.Depth.{Depth}
use Rattle.standard.specs.Arithmetic.{sum, round_ℕ}
use Rattle.standard.specs.Wiener.{Grid}
use Rattle.standard.specs.SelfGuided.{area, scale, one_over, box_sum, spread, a2_of, a2_at, b2_at}
use Rattle.standard.specs.Depths.{largest}
use Rattle.standard.proofs.Sums.{sum_same, sum_small}
use Rattle.boxes.specs.Reads.{sample_at, seen, sums, squares}
use Rattle.boxes.specs.BoxRows.{Run}
use Rattle.boxes.proofs.ScaleLaws.{a2_low, a2_most, b2_most, weigh}
use Rattle.boxes.proofs.RunLaws.{run_at}

sum_plus : (n : ℕ) (f g : ℕ → ℕ) → sum n (λ k. f k + g k) ≡ sum n f + sum n g
unfolding sum
sum_plus zero f g = refl
sum_plus (suc n) f g = omega (arith, sum_plus n f g)

sum_zero : (n : ℕ) → sum n (λ _. 0) ≡ 0
unfolding sum
sum_zero zero = refl
sum_zero (suc n) = omega (arith, sum_zero n)

pub sum_swap : (m n : ℕ) (f : ℕ → ℕ → ℕ) → sum m (λ i. sum n (λ j. f i j)) ≡ sum n (λ j. sum m (λ i. f i j))
unfolding sum
sum_swap zero n f = sym (sum_zero n)
sum_swap (suc m) n f = ap (λ (x : ℕ). x + sum n (λ j. f m j)) (sum_swap m n f) ∙ sym (sum_plus n (λ j. sum m (λ i. f i j)) (λ j. f m j))

-- the box whose corner is at 0, j
pub box_is : (r : ℕ) (g : Grid) (j : ℕ) → box_sum r g r (j + r) ≡ sum (2 * r + 1) (λ k. sum (2 * r + 1) (λ i. g i (j + k)))
unfolding box_sum
box_is r g j =
    sum_swap (2 * r + 1) (2 * r + 1) (λ i k. g (r + i - r) (j + r + k - r))
    ∙ sum_same (2 * r + 1) _ _ (λ k p. sum_same (2 * r + 1) _ _ (λ i q. ap2 g (omega arith) (omega arith)))

-- a sum across a run
pub sums_across : (n : ℕ) (f : ℕ → ℕ) {at m : ℕ} {l : List ℤ} → Run f at m l → (j : ℕ) → j + n < m → sums (n + 1) l (at + j) 1 ≡ sum (n + 1) (λ k. f (j + k))
unfolding sums
sums_across n f {at} {m} {l} p j h = sum_same (n + 1) _ _ (λ k q. ap (sample_at l) (index k) ∙ run_at p (j + k) (omega arith))
  where
    index : (k : ℕ) → at + j + k * 1 ≡ at + (j + k)
    index k = omega arith

-- sums down, then across
module _ (r : ℕ) (s : List ℤ) (from st j : ℕ) where
  pub box_sum_lem : sum (2 * r + 1) (λ k. sums (2 * r + 1) s (from + (j + k)) st) ≡ box_sum r (seen st s from) r (j + r)
  unfolding sums seen
  box_sum_lem = sum_same (2 * r + 1) _ _ (λ k p. sum_same (2 * r + 1) _ _ (λ i q. ap (sample_at s) (omega arith))) ∙ sym (box_is r (seen st s from) j)

  pub box_squares_lem : sum (2 * r + 1) (λ k. squares (2 * r + 1) s (from + (j + k)) st) ≡ box_sum r (λ y x. seen st s from y x * seen st s from y x) r (j + r)
  unfolding squares seen
  box_squares_lem = sum_same (2 * r + 1) _ _ (λ k p. sum_same (2 * r + 1) _ _ (λ i q. ap (λ (p : ℕ). sample_at s p * sample_at s p) (omega arith))) ∙ sym (box_is r (λ y x. seen st s from y x * seen st s from y x) j)

-- ---- a grid that is another one seen from row p, column q, as far as row Y and column X
module _ (g h : Grid) (p q Y X : ℕ) (e : (i j : ℕ) → i ≤ Y → j ≤ X → h i j ≡ g (p + i) (q + j)) where
  box_moved : (f : ℕ → ℕ) (r y x : ℕ) → r ≤ y → r ≤ x → y + r ≤ Y → x + r ≤ X → box_sum r (λ i j. f (h i j)) y x ≡ box_sum r (λ i j. f (g i j)) (p + y) (q + x)
  unfolding box_sum
  box_moved f r y x u v s t = sum_same (2 * r + 1) _ _ (λ i k. sum_same (2 * r + 1) _ _ (λ j l. ap f (e (y + i - r) (x + j - r) (omega arith) (omega arith) ∙ ap2 g (omega arith) (omega arith))))

  pub a2_moved : (d : Depth) (r eps y x : ℕ) → r ≤ y → r ≤ x → y + r ≤ Y → x + r ≤ X → a2_at d r eps h y x ≡ a2_at d r eps g (p + y) (q + x)
  unfolding a2_at
  a2_moved d r eps y x u v s t = ap2 (λ a b. a2_of (round_ℕ 20 (spread d (area r) a b * scale r eps))) (box_moved (λ n. n * n) r y x u v s t) (box_moved (λ n. n) r y x u v s t)

  pub b2_moved : (d : Depth) (r eps y x : ℕ) → r ≤ y → r ≤ x → y + r ≤ Y → x + r ≤ X → b2_at d r eps h y x ≡ b2_at d r eps g (p + y) (q + x)
  unfolding b2_at
  b2_moved d r eps y x u v s t = ap2 (λ a b. round_ℕ 12 ((256 - a) * b * one_over (area r))) (a2_moved d r eps y x u v s t) (box_moved (λ n. n) r y x u v s t)

-- ---- bounds of a2 and b2, the samples being in range
pub a2_bounded : (d : Depth) (r eps : ℕ) (g : Grid) (y x : ℕ) → a2_at d r eps g y x ≤ 256
unfolding a2_at
a2_bounded d r eps g y x = a2_most _

box_bounded : (r m : ℕ) (g : Grid) (y x : ℕ) → ((i j : ℕ) → i ≤ y + r → j ≤ x + r → g i j ≤ m) → box_sum r g y x ≤ (2 * r + 1) * ((2 * r + 1) * m)
unfolding box_sum
box_bounded r m g y x h =
    sum_small (2 * r + 1) ((2 * r + 1) * m) _ (λ i p. sum_small (2 * r + 1) m _ (λ j q. h (y + i - r) (x + j - r) (omega arith) (omega arith)))

pub b2_bounded : (d : Depth) (r eps : ℕ) (g : Grid) (y x : ℕ) → r ≤ 2 → ((i j : ℕ) → i ≤ y + r → j ≤ x + r → g i j ≤ largest d) → b2_at d r eps g y x ≤ 1045245
unfolding b2_at a2_at
b2_bounded d r eps g y x q h = b2_most _ (box_sum r g y x) (one_over (area r)) (a2_low _) (weigh r d (box_sum r g y x) q (box_bounded r (largest d) g y x h))
