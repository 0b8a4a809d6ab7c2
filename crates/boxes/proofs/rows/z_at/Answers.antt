-- The sums are as small as their terms, and z is at most 255.
use Prim.Native.Nat.{◌+◌, ◌*◌}
use native.Mathlib.Omega.{arith}
use Rattle.standard.specs.Depths.{largest}
use Rattle.boxes.proofs.SumLaws.{sums_small}
use Rattle.boxes.proofs.ScaleLaws.{area_high, z_most, at_most_25}
use Rattle.boxes.proofs.rows.z_at.Goals as goal

pub z_of-requires : goal.z_of-requires
z_of-requires g c = (
  omega (arith, c.area.ensures, area_high g.row.R (omega arith)),
  omega (arith, c.sum_at.ensures, at_most_25 (2 * g.row.R + 1) (largest c.args.z.depth * largest c.args.z.depth) (omega arith) (sums_small c.requires.samples (2 * g.row.R) 1 (omega arith))),
  omega (arith, c.word.ensures, c.requires.samples_2.size c.args.fb (omega arith) (omega arith)),
)

pub signed-requires : goal.signed-requires
signed-requires g c = omega (arith, c.z_of.ensures, z_most c.args.z c.area.result c.sum_at.result c.word.result)
