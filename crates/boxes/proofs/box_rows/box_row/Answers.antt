-- Each step reads what the steps before it left: `Pipe` says what that is.
use mathlib.Core.Path.{◌≡◌, ◌∙◌, ap}
use native.Mathlib.Omega.{arith}
use Rattle.standard.specs.SelfGuided.{area, one_over}
use Rattle.boxes.proofs.Pipe.{second_reads, third_squares, third_sums, fourth_reads, fifth_shares, fifth_sums, boxed}
use Rattle.boxes.proofs.box_rows.box_row.Given.{Over}
use Rattle.boxes.proofs.box_rows.box_row.Goals as goal

-- the number by which b2 is weighed
weight : (g : Over) (c : goal.After-one_over g) → c.one_over.result ≡ one_over (area g.row.R)
weight g c = c.one_over.ensures ∙ ap one_over c.area.ensures

pub sum_row-requires-clause-samples : goal.sum_row-requires-clause-samples
sum_row-requires-clause-samples g c = second_reads g.row.R _ _ _ _ _ _ _ c.requires _ c.down_row.ensures

pub z_row-requires-clause-samples : goal.z_row-requires-clause-samples
z_row-requires-clause-samples g c = third_squares g.row.R _ _ _ _ _ _ _ c.requires _ c.down_row.ensures _ c.sum_row.ensures

pub z_row-requires-clause-samples_2 : goal.z_row-requires-clause-samples_2
z_row-requires-clause-samples_2 g c = third_sums g.row.R _ _ _ _ _ _ _ c.requires _ c.down_row.ensures _ c.sum_row.ensures

pub a2_row-requires : goal.a2_row-requires
a2_row-requires g c = let P = c.requires in (
  omega (arith, P.lines),
  omega (arith, P.order, P.room),
  fourth_reads g.row.R _ _ _ _ _ _ _ P _ c.down_row.ensures _ c.sum_row.ensures _ c.z_row.ensures,
)

pub b2_row-requires-clause-shares : goal.b2_row-requires-clause-shares
b2_row-requires-clause-shares g c = (
  fifth_shares g.row.R _ _ _ _ _ _ _ c.requires _ c.down_row.ensures _ c.sum_row.ensures _ c.z_row.ensures _ c.a2_row.ensures,
  fifth_sums g.row.R _ _ _ _ _ _ _ c.requires _ c.down_row.ensures _ c.sum_row.ensures _ c.z_row.ensures _ c.a2_row.ensures _ (weight g c),
)

pub returns : goal.returns
returns g c =
    boxed g.row.R _ _ _ _ _ _ _ c.requires _ c.down_row.ensures _ c.sum_row.ensures _ c.z_row.ensures _ c.a2_row.ensures _ (c.one_over.ensures ∙ ap one_over c.area.ensures) _ c.b2_row.ensures
