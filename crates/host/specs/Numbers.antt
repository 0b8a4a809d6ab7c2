-- What a struct of the C interface says: the number, and the values beside it.
use Rattle.std.specs.Prelude.{ℕ}
use Rattle.standard.specs.declared.Counts.{Counts}
use Rattle.standard.specs.declared.Geometry.{Geometry}
use Rattle.host.specs.declared.answers.CountedNumbers.{CountedNumbers}
use Rattle.host.specs.declared.answers.PlacedNumbers.{PlacedNumbers}
use Rattle.host.specs.declared.answers.RestoredNumbers.{RestoredNumbers}

abbrev pub counted_of : CountedNumbers → ℕ × Counts
counted_of r = (r.number, record { unit_rows = r.unit_rows; unit_cols = r.unit_cols; stripes = r.stripes; rectangles = r.rectangles })

abbrev pub placed_of : PlacedNumbers → ℕ × Geometry
placed_of r = (
  r.number,
  record {
    unit_row = r.unit_row;
    unit_col = r.unit_col;
    x = r.x;
    y = r.y;
    w = r.w;
    h = r.h;
    stripe_start_y = r.stripe_start_y;
    stripe_end_y = r.stripe_end_y;
    plane_end_x = r.plane_end_x;
    plane_end_y = r.plane_end_y;
  },
)

abbrev pub restored_of : RestoredNumbers → ℕ × ℕ
restored_of r = (r.number, r.changed)
