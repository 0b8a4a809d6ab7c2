-- One signed expression: it fits, and it is the definition.
use native.Mathlib.Omega.{arith}
use Prim.Native.Nat.{◌*◌}
use lib.IntN.{pos}
use mir.Syntax.{w32}
use Rattle.laws.specs.SignedCode.{Expression, Nat, Lit, ShrBy, ◌⊝◌, lhs, safe, is_exact}
use Rattle.standard.specs.Stripes.{stripe_start_y_of}
use Rattle.geometry.proofs.stripes.stripe_start_y.Goals as goal

abbrev start : goal.Start → Expression
start c = ShrBy (Nat (64 * c.args.s) 4194240 (omega arith) ⊝ Lit (pos 8)) c.args.sub_y

pub overflow_sub-result : goal.overflow_sub-result
overflow_sub-result c = safe w32 (lhs (start c)) tt

pub returns : goal.returns
unfolding stripe_start_y_of
returns c = is_exact w32 (start c) tt
