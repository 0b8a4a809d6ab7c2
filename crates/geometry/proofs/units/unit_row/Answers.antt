-- The unit of luma row 64 s.
use Rattle.standard.specs.Stripes.{unit_row_of, unit_col_of}
use Rattle.geometry.proofs.units.unit_row.Goals as goal

pub returns : goal.returns
unfolding unit_row_of unit_col_of
returns c = c.unit_col.ensures
