-- The eight products as one expression: no operation overflows, and its value is the sum of the definition.
use Prim.Native.Nat.{ℕ, ◌+◌}
use mathlib.Core.Path.{◌∙◌}
use mathlib.Core.List.{List}
use lib.IntN.{ℤ}
use mir.Syntax.{w32}
use Rattle.laws.specs.Bounds.{Sized}
use Rattle.laws.specs.SignedCode.{Expression, lhs, safe, is_exact}
use Rattle.superres.proofs.Dot.{products, products_dot}
use Rattle.superres.proofs.row.dot8.Goals as goal

-- the sum of the first products, up to all eight
module _ {r t : List ℤ} {i f : ℕ} (z : Sized 4095 i (i + 8) r × Sized 128 f (f + 8) t) where
  abbrev s8 : Expression
  s8 = products z.0 z.1

  abbrev s7 : Expression
  s7 = lhs s8

  abbrev s6 : Expression
  s6 = lhs s7

  abbrev s5 : Expression
  s5 = lhs s6

  abbrev s4 : Expression
  s4 = lhs s5

  abbrev s3 : Expression
  s3 = lhs s4

  abbrev s2 : Expression
  s2 = lhs s3

pub overflow_add-result-3 : goal.overflow_add-result-3
overflow_add-result-3 c = safe w32 (s2 c.requires.sized) tt

pub overflow_add-result-6 : goal.overflow_add-result-6
overflow_add-result-6 c = safe w32 (s3 c.requires.sized) tt

pub overflow_add-result-9 : goal.overflow_add-result-9
overflow_add-result-9 c = safe w32 (s4 c.requires.sized) tt

pub overflow_add-result-12 : goal.overflow_add-result-12
overflow_add-result-12 c = safe w32 (s5 c.requires.sized) tt

pub overflow_add-result-15 : goal.overflow_add-result-15
overflow_add-result-15 c = safe w32 (s6 c.requires.sized) tt

pub overflow_add-result-18 : goal.overflow_add-result-18
overflow_add-result-18 c = safe w32 (s7 c.requires.sized) tt

pub overflow_add-result-21 : goal.overflow_add-result-21
overflow_add-result-21 c = safe w32 (s8 c.requires.sized) tt

pub returns : goal.returns
returns c = is_exact w32 (s8 c.requires.sized) tt ∙ products_dot c.requires.sized.0 c.requires.sized.1
