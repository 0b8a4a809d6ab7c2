-- The two rounded sums are small, so their products fit; the cut is the definition's.
use Prim.Native.Nat.{ℕ, ◌+◌, ◌*◌, ◌/◌}
use mathlib.Core.Path.{◌∙◌, ap}
use native.Mathlib.Omega.{arith}
use Rattle.boxes.proofs.ScaleLaws.{top_small, scaled_small, square_small, z_is}
use Rattle.boxes.proofs.shares.z_of.Goals as goal

pub overflow_mul-a : goal.overflow_mul-a
overflow_mul-a c = omega (arith, scaled_small c.args.z c.args.a c.args.n c.requires.1 c.requires.0)

pub between-p-requires : goal.between-p-requires
between-p-requires c = (
  omega (arith, scaled_small c.args.z c.args.a c.args.n c.requires.1 c.requires.0),
  omega (arith, square_small c.args.z c.args.b c.requires.2),
  omega (arith, top_small c.args.z),
)

pub returns : goal.returns
returns c = ap (λ (m : ℕ). (m * c.args.z.s + 524288) / 1048576) c.between-p.ensures ∙ z_is c.args.z c.args.n c.args.a c.args.b c.requires.2
