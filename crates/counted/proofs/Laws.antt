-- A count over a plane's slice is the definition's count, row by row; and a plane differs from itself nowhere.
use mathlib.Core.Path.{◌≡◌, refl, ap, ◌∙◌}
use mathlib.Core.Bool.{cond}
use mathlib.Core.List.{List}
use Prim.Native.Nat.{ℕ, zero, suc, ◌+◌, ◌*◌}
use native.Mathlib.Omega.{arith}
use native.Mathlib.Nat.{add-zero, add-suc, zero-mul, suc-mul}
use lib.IntN.{ℤ, pos, nat_abs}
use lib.ListN.{get_or}
use lib.Dec.{eqb, eqb_refl}
use Rattle.laws.specs.Tests.{is_true, cond_true}
use Rattle.standard.specs.Arithmetic.{sum}
use Rattle.standard.specs.Wiener.{Grid}
use Rattle.standard.specs.Fetch.{changed}
use Rattle.standard.specs.Planes.{grid}
use Rattle.standard.proofs.Sums.{sum_same}

-- a sum in two parts
pub sum_add : (a b : ℕ) (g : ℕ → ℕ) → sum (a + b) g ≡ sum a g + sum b (λ k. g (a + k))
unfolding sum
sum_add a zero g = ap (λ n. sum n g) (add-zero a) ∙ omega arith
sum_add a (suc b) g = ap (λ n. sum n g) (add-suc a b) ∙ ap (λ s. s + g (a + b)) (sum_add a b g) ∙ omega arith

-- a sum over a slice, row by row
pub sum_rows : (h w : ℕ) (g : ℕ → ℕ) → sum (h * w) g ≡ sum h (λ y. sum w (λ x. g (y * w + x)))
unfolding sum
sum_rows zero w g = ap (λ n. sum n g) (zero-mul w)
sum_rows (suc h) w g = ap (λ n. sum n g) (suc-mul h w) ∙ sum_add (h * w) w g ∙ ap (λ s. s + sum w (λ x. g (h * w + x))) (sum_rows h w g)

pub changed_flat : (h w : ℕ) (P C : List ℤ) → sum (h * w) (λ n. cond (eqb (nat_abs (get_or P n (pos 0))) (nat_abs (get_or C n (pos 0)))) 0 1) ≡ changed h w (grid w P) (grid w C)
unfolding changed grid
changed_flat h w P C = sum_rows h w _

sum_zero : (n : ℕ) → sum n (λ _. 0) ≡ 0
unfolding sum
sum_zero zero = refl
sum_zero (suc n) = omega (arith, sum_zero n)

pub changed_none : (h w : ℕ) (P : Grid) → changed h w P P ≡ 0
unfolding changed
changed_none h w P = sum_same h _ (λ _. 0) (λ y p. sum_same w _ (λ _. 0) (λ x q. cond_true _ 0 1 (is_true (eqb (P y x) (P y x)) (eqb_refl (P y x)))) ∙ sum_zero w) ∙ sum_zero h
