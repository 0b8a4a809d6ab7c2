-- The rows copied are the stripe's own rows of the first slice, which are what its source shows.
use Prim.Native.Nat.{◌+◌}
use mathlib.Core.Path.{◌∙◌}
use native.Mathlib.Omega.{arith}
use native.Mathlib.Nat.{mul-le-mul_right}
use Rattle.laws.specs.Rows.{rows_same}
use Rattle.rectangle.proofs.PlainLaws.{own_room, plain_value}
use Rattle.rectangle.proofs.plain.plain_rect.Goals as goal

pub copy_rect-requires-clause-rw_bound : goal.copy_rect-requires-clause-rw_bound
copy_rect-requires-clause-rw_bound c = let s = c.args in let p = c.requires.w_in_bounds in
    (p.2.right, omega (arith, p.0, mul-le-mul_right s.v.w p.2.low), own_room s.v.depth _ _ _ _ s.v.source c.args.v.fetchable s.r.y s.r.h p.3 p.1 p.2.low)

pub returns : goal.returns
returns c = let s = c.args in let p = c.requires.w_in_bounds in
    c.copy_rect.ensures ∙ rows_same _ _ _ _ _ _ _ (λ i x u v. plain_value s.v.depth _ _ _ _ s.v.source c.args.v.fetchable s.r.y s.r.h p.3 i (s.r.x + x) u p.2.low (omega arith))
