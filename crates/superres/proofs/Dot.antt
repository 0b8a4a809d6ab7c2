-- The eight products of a column as an expression, its value, and its bound.
use mathlib.Core.Path.{◌≡◌, sym}
use mathlib.Core.List.{List}
use Prim.Native.Nat.{ℕ, ◌+◌, ◌≤◌, ◌<◌}
use native.Mathlib.Omega.{arith}
use native.Mathlib.Nat.{add-zero}
use lib.IntN.{ℤ, pos, nat_abs, +ℤ_idl}
use lib.ListN.{get_or}
use mir.Syntax.{w16}
use Rattle.laws.specs.Bounds.{Sized}
use Rattle.laws.specs.SignedCode.{Expression, Var, Cast, ◌⊕◌, ◌⊗◌, exact, bounded}
use Rattle.standard.specs.Arithmetic.{sum_ℤ}
use Rattle.superres.specs.Scaled.{dot}

module _ {r t : List ℤ} {i f : ℕ} (p : Sized 4095 i (i + 8) r) (q : Sized 128 f (f + 8) t) where
  abbrev pub times : (a b : ℕ) → i ≤ a → a < i + 8 → f ≤ b → b < f + 8 → Expression
  times a b i≤ <i f≤ <f = Cast w16 (Var (get_or t b (pos 0)) 128 (q.size b f≤ <f)) ⊗ Cast w16 (Var (get_or r a (pos 0)) 4095 (p.size a i≤ <i))

  abbrev pub products : Expression
  products =
      times i f (omega arith) (omega arith) (omega arith) (omega arith)
      ⊕ times (i + 1) (f + 1) (omega arith) (omega arith) (omega arith) (omega arith)
      ⊕ times (i + 2) (f + 2) (omega arith) (omega arith) (omega arith) (omega arith)
      ⊕ times (i + 3) (f + 3) (omega arith) (omega arith) (omega arith) (omega arith)
      ⊕ times (i + 4) (f + 4) (omega arith) (omega arith) (omega arith) (omega arith)
      ⊕ times (i + 5) (f + 5) (omega arith) (omega arith) (omega arith) (omega arith)
      ⊕ times (i + 6) (f + 6) (omega arith) (omega arith) (omega arith) (omega arith)
      ⊕ times (i + 7) (f + 7) (omega arith) (omega arith) (omega arith) (omega arith)

  pub products_dot : exact products ≡ dot r i t f
  unfolding dot sum_ℤ
  products_dot = sym (rw (+ℤ_idl, add-zero f, add-zero i))

  pub dot_small : nat_abs (dot r i t f) ≤ 4193280
  dot_small = rw (← products_dot) (bounded products)
