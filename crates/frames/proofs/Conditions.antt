-- The table's conditions where earlier tests have answered: what is left of each is one test.
use mathlib.Core.Path.{◌≡◌}
use mathlib.Core.Bool.{Bool, true, false, cond}
use Prim.Native.Nat.{ℕ, zero, suc, ◌≤◌, ◌<◌}
use native.Mathlib.Omega.{arith}
use borrow.Author.Tests.{ne_eqb, lt-ltb, le-ltb}
use lib.Dec.{eqb, ltb}
use Rattle.standard.specs.Refusals.{no2, sub_of}

-- 2
pub plane_high : (p sx sy : ℕ) → 2 < p → true ≡ no2 p sx sy
unfolding no2
plane_high p sx sy h = rw (lt-ltb 2 p h)

pub sub_high : (p sx sy : ℕ) → p ≤ 2 → 1 < sx → true ≡ no2 p sx sy
unfolding no2
sub_high p sx sy h k = rw (le-ltb 2 p h, ne_eqb sx 0 (λ e. omega arith), ne_eqb sx 1 (λ e. omega arith))

pub sub_pair : (p sx sy : ℕ) → p ≤ 2 → sx ≤ 1 → ltb sx sy ≡ no2 p sx sy
unfolding no2
sub_pair p zero zero h k = rw (le-ltb 2 p h)
sub_pair p zero (suc sy) h k = rw (le-ltb 2 p h, lt-ltb 0 (suc sy) (omega arith), ne_eqb (suc sy) 0 (λ e. omega arith))
sub_pair p (suc zero) zero h k = rw (le-ltb 2 p h)
sub_pair p (suc zero) (suc zero) h k = rw (le-ltb 2 p h)
sub_pair p (suc zero) (suc (suc sy)) h k = rw (le-ltb 2 p h, lt-ltb 1 (suc (suc sy)) (omega arith), ne_eqb (suc (suc sy)) 0 (λ e. omega arith), ne_eqb (suc (suc sy)) 1 (λ e. omega arith))
sub_pair p (suc (suc sx)) sy h k = absurd (omega arith)

-- a plane's subsampling is no more than the frame's
pub sub_small : (p s m : ℕ) → s ≤ m → sub_of p s ≤ m
sub_small p s m h = pick (eqb p 0)
  where
    pick : (b : Bool) → cond b 0 s ≤ m
    pick true = omega arith
    pick false = h
