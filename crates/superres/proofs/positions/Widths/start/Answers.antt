-- The start: each part is read as the definition has it; with a multiple of 16384 added the sum is not negative, and its remainder is unchanged.
use Prim.Native.Nat.{ℕ, ◌*◌, ◌-◌, ◌/◌, ◌≤◌}
use mathlib.Core.Path.{◌≡◌, refl, sym, ◌∙◌, ap}
use native.Mathlib.Omega.{arith}
use native.Mathlib.Nat.{div-le_of_le-mul}
use lib.IntN.{ℤ, pos, nat_abs, ◌+ℤ◌, ◌-ℤ◌}
use lib.Signed.{◌≤ℤ◌, quot_z}
use mir.Syntax.{w32}
use mir.Val.{to_z, of_z}
use Rattle.laws.specs.Linear.{#, ◌⊞◌, ◌⊟◌, linear_le, ring}
use Rattle.laws.specs.ReadBack.{returned}
use Rattle.laws.specs.Sizes.{abs_parts}
use Rattle.laws.specs.SignedCode.{Expression, Nat, Held, Lit, ◌⊝◌, cast_unsigned, cast_value}
use Rattle.standard.specs.Arithmetic.{wrap}
use Rattle.standard.specs.Superres.{err, start}
use Rattle.superres.proofs.Laws.{quot_back, quot_small, quot_read, err_size, wrap_up}
use Rattle.superres.proofs.positions.Widths.start.Goals as goal

module _ (c : goal.After-err-half) where
  abbrev d : ℕ
  d = c.args.self.d

  abbrev u : ℕ
  u = c.args.self.u

  low : u / 2 ≤ (u - d) * 8192
  low = omega arith

  abbrev back : ℕ
  back = ((u - d) * 8192 - u / 2) / u

  abbrev half : ℤ
  half = quot_z (err d u) (pos 2)

  back_small : back ≤ 8192
  back_small = div-le_of_le-mul u (omega arith)

  err_small : nat_abs (err d u) ≤ 16384
  err_small = omega (arith, err_size d u (omega arith))

  half_small : nat_abs half ≤ 16384
  half_small = quot_small (err d u) (pos 2) 16384 err_small

  half_read : to_z w32 (of_z w32 (quot_z (to_z w32 (of_z w32 c.err-half.result)) (pos 2))) ≡ half
  half_read = quot_read (err d u) (pos 2) (returned w32 c.err-half.type_inv c.err-half.ensures) refl (omega (arith, err_small))

  abbrev total : Expression
  total = Lit (pos 32896) ⊝ Nat back 8192 back_small ⊝ Held (to_z w32 (of_z w32 (quot_z (to_z w32 (of_z w32 c.err-half.result)) (pos 2)))) half 16384 half_read half_small

  positive : pos 0 ≤ℤ (pos 32896 -ℤ pos back -ℤ half)
  positive = linear_le (# (pos 0)) (# (pos 32896) ⊟ # (pos back) ⊟ # half) (omega (arith, abs_parts half, back_small, half_small))

  raised : pos 32896 -ℤ pos back -ℤ half ≡ pos 0 -ℤ pos back +ℤ pos 128 -ℤ half +ℤ pos 32768
  raised = ring (# (pos 32896) ⊟ # (pos back) ⊟ # half) (# (pos 0) ⊟ # (pos back) ⊞ # (pos 128) ⊟ # half ⊞ # (pos 32768)) (omega arith)

pub returns : goal.returns
unfolding start
returns c = wrap_up (pos 0 -ℤ pos (back c) +ℤ pos 128 -ℤ half c) _ (cast_value w32 (total c) tt (positive c) ∙ raised c) ∙ ap (λ z. wrap 16384 (z +ℤ pos 128 -ℤ half c)) (sym (quot_back (u c / 2) ((u c - d c) * 8192) (u c) (low c)))

pub overflow_cast-result-2 : goal.overflow_cast-result-2
overflow_cast-result-2 c = cast_unsigned w32 w32 (total c) tt (positive c) tt
