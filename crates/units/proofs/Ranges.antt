-- Where number 15 is not given, every sample is one of the depth.
use mathlib.Core.Path.{◌≡◌}
use mathlib.Core.Bool.{false}
use mathlib.Core.List.{List}
use Prim.Native.Nat.{ℕ, ◌-◌, ◌^◌}
use native.Mathlib.Omega.{arith}
use lib.IntN.{ℤ, pos}
use lib.ListN.{length, get_or}
use lib.Signed.{◌≤ℤ◌, le_z}
use lib.Dec.{T, le→leb}
use Rattle.laws.specs.Bounds.{Samples}
use Rattle.laws.specs.Lists.{all, all_at}
use Rattle.laws.specs.Sizes.{abs_in}
use Rattle.laws.specs.Tests.{and_l, and_r, not_no}
use Rattle.standard.specs.Units.{between}
use Rattle.standard.specs.Refusals.{no15}

pub samples_of : (depth : ℕ) (s : List ℤ) → no15 depth s ≡ false → Samples (2 ^ depth - 1) 0 (length s) s
unfolding no15
samples_of depth s h = record { low = λ k u v. low k; size = λ k u v. omega (arith, abs_in (low k) (high k)) }
  where
    passed : (k : ℕ) → T (between (pos 0) (pos (2 ^ depth - 1)) (get_or s k (pos 0)))
    passed = all_at (between (pos 0) (pos (2 ^ depth - 1))) (pos 0) (le→leb 0 (2 ^ depth - 1) (omega arith)) s (not_no (all (between (pos 0) (pos (2 ^ depth - 1))) s) h)

    low : (k : ℕ) → pos 0 ≤ℤ get_or s k (pos 0)
    low k = record { le = and_l (le_z (pos 0) (get_or s k (pos 0))) (le_z (get_or s k (pos 0)) (pos (2 ^ depth - 1))) (passed k) }

    high : (k : ℕ) → get_or s k (pos 0) ≤ℤ pos (2 ^ depth - 1)
    high k = record { le = and_r (le_z (pos 0) (get_or s k (pos 0))) (le_z (get_or s k (pos 0)) (pos (2 ^ depth - 1))) (passed k) }
