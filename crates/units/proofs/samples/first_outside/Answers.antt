-- The depth gives the largest sample, which is no negative number; the search is asked only where the joined number is not 0.
use Prim.Native.Nat.{ℕ, ◌-◌, ◌^◌}
use native.Mathlib.Omega.{arith}
use mathlib.Core.Path.{◌≡◌, ◌∙◌, ap}
use lib.Dec.{lit<}
use lib.IntN.{ℤ, pos, nat_abs}
use mir.Syntax.{w16, w32}
use mir.Val.{to_z, of_z}
use Rattle.laws.specs.Integers.{le_out}
use Rattle.laws.specs.ReadBack.{returned, cast_unsigned_at}
use Rattle.standard.specs.Depths.{largest}
use Rattle.units.proofs.Depths.{bits_of, largest_most}
use Rattle.units.proofs.Search.{outside_none, outside_found}
use Rattle.units.proofs.samples.first_outside.Goals as goal

top_is : (c : goal.After-largest-top) → pos (nat_abs (to_z w32 (of_z w32 c.largest-top.result))) ≡ pos (2 ^ c.args.depth - 1)
top_is c = ap (λ (z : ℤ). pos (nat_abs z)) (returned w32 c.largest-top.type_inv (c.largest-top.ensures ∙ ap (λ d. pos (largest d)) c.depth_of.ensures ∙ ap (λ (n : ℕ). pos (2 ^ n - 1)) (bits_of _ c.requires)))

pub overflow_cast-top : goal.overflow_cast-top
overflow_cast-top c = let d = c.depth_of.result in cast_unsigned_at w16 {m = 4095} (returned w32 c.largest-top.type_inv c.largest-top.ensures) (le_out (omega arith)) (le_out (omega (arith, largest_most d))) (record { fits = lit< tt })

pub returns-then-some_outside-eq0 : goal.returns-then-some_outside-eq0
returns-then-some_outside-eq0 c = outside_none _ _ _ _ (top_is c.before.before) c.some_outside.ensures c.if-some_outside-eq0.true

pub returns : goal.returns
returns c = outside_found _ _ _ _ (top_is c.before.before.before) c.find_outside.ensures
