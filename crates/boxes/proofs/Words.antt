-- The cast that reads a sample, and samples with a larger bound.
use mathlib.Core.Path.{◌≡◌, sym, subst}
use mathlib.Core.List.{List}
use Prim.Native.Nat.{ℕ, ◌≤◌}
use native.Mathlib.Omega.{arith}
use native.Mathlib.Nat.{le_trans}
use lib.IntN.{ℤ, pos}
use lib.Signed.{◌≤ℤ◌}
use Rattle.laws.specs.Integers.{le_out}
use Rattle.laws.specs.Bounds.{Samples}

pub not_negative : {z : ℤ} {n : ℕ} → z ≡ pos n → pos 0 ≤ℤ z
not_negative e = subst (λ (z : ℤ). pos 0 ≤ℤ z) (sym e) (le_out (omega arith))

pub samples_widen : {m lo hi : ℕ} {s : List ℤ} (n : ℕ) → m ≤ n → Samples m lo hi s → Samples n lo hi s
samples_widen n h p = record { low = p.low; size = λ k u v. le_trans (p.size k u v) h }
