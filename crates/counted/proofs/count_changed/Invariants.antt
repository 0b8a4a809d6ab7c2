-- The count so far is the sum so far, at most one for each place passed.
use Rattle.std.proofs.Common.{◌≡◌, ◌≤◌, cond, eqb, List, ℕ, ℤ, pos, nat_abs, get_or}
use Rattle.standard.specs.Arithmetic.{sum}
use Rattle.counted.proofs.count_changed.Given as goal

abbrev pub unlike : ℤ → ℤ → ℕ
unlike a b = cond (eqb (nat_abs a) (nat_abs b)) 0 1

abbrev pub differ : List ℤ → List ℤ → ℕ → ℕ
differ out cdef n = unlike (get_or out n (pos 0)) (get_or cdef n (pos 0))

abbrev pub invariant-loop-n : goal.invariant-loop-n
invariant-loop-n l = (l.count ≡ sum l.n (differ l.out l.cdef)) × (l.count ≤ l.n)
