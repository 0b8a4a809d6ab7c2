-- Units, stripes and rectangles of a plane of h rows and w columns. sx and sy are the plane's subsampling, size its unit size.
use Rattle.std.specs.Prelude.{cond, ℕ, suc, ◌+◌, ◌-◌, ◌*◌, ◌/◌, ◌%◌, ◌^◌, min, max, ℤ, pos, ◌+ℤ◌, ◌-ℤ◌, eqb}
use Rattle.std.specs.Int.Signed.{shr_z}
use Rattle.standard.specs.declared.Geometry.{Geometry}

-- count_units_in_frame (§5.11.57)
unfoldable pub units : ℕ → ℕ → ℕ
units extent size = max 1 ((extent + size / 2) / size)

-- StripeStartY and StripeEndY of stripe s (§7.17.1): stripe 0 starts above the plane
unfoldable pub stripe_start_y_of : ℕ → ℕ → ℤ
stripe_start_y_of sy s = shr_z (pos (64 * s) -ℤ pos 8) (2 ^ sy)

unfoldable pub stripe_end_y_of : ℕ → ℕ → ℤ
stripe_end_y_of sy s = stripe_start_y_of sy s +ℤ pos (64 / 2 ^ sy) -ℤ pos 1

-- the same within the plane: the first row of stripe s, and the row after its last, not cut to the plane's height
unfoldable pub stripe_start : ℕ → ℕ → ℕ
stripe_start sy s = (64 * s - 8) / 2 ^ sy

unfoldable pub stripe_stop : ℕ → ℕ → ℕ
stripe_stop sy s = (64 * s + 56) / 2 ^ sy

-- stripeNum of a row, by its luma row (§7.17.1)
unfoldable pub stripe_of : ℕ → ℕ → ℕ
stripe_of sy y = (y * 2 ^ sy + 8) / 64

-- the stripes that start in the plane
unfoldable pub stripes : ℕ → ℕ → ℕ
stripes sy h = stripe_of sy (h - 1) + 1

-- unit_row_of of a stripe and unit_col_of of a column (§7.17.1)
unfoldable pub unit_row_of : ℕ → ℕ → ℕ → ℕ → ℕ
unit_row_of sy size h s = min (units h size - 1) (64 * s / 2 ^ sy / size)

unfoldable pub unit_col_of : ℕ → ℕ → ℕ → ℕ
unit_col_of size w x = min (units w size - 1) (x / size)

-- ---- rectangles by index: stripe by stripe, left to right
unfoldable pub rectangles : ℕ → ℕ → ℕ → ℕ → ℕ
rectangles sy size h w = stripes sy h * units w size

-- the first column of unit column c, and the column after its last: the last unit column runs to the plane's edge
unfoldable pub left : ℕ → ℕ → ℕ
left size c = c * size

unfoldable pub right : ℕ → ℕ → ℕ → ℕ
right size w c = cond (eqb (suc c) (units w size)) w (suc c * size)

unfoldable pub rectangle : ℕ → ℕ → ℕ → ℕ → ℕ → Geometry
rectangle sy size h w i = record {
  unit_row = unit_row_of sy size h (i / units w size);
  unit_col = i % units w size;
  x = left size (i % units w size);
  y = stripe_start sy (i / units w size);
  w = right size w (i % units w size) - left size (i % units w size);
  h = min h (stripe_stop sy (i / units w size)) - stripe_start sy (i / units w size);
  stripe_start_y = stripe_start_y_of sy (i / units w size);
  stripe_end_y = stripe_end_y_of sy (i / units w size);
  plane_end_x = pos w -ℤ pos 1;
  plane_end_y = pos h -ℤ pos 1;
}

-- ---- the specification's own derivation (§7.17.1), for the 4 by 4 luma block of row and column, counted in blocks
unfoldable pub block : ℕ → ℕ → ℕ → ℕ → ℕ → ℕ → ℕ → Geometry
block sx sy size h w row col = record {
  unit_row = min (units h size - 1) ((row * 4 + 8) / 2 ^ sy / size);
  unit_col = min (units w size - 1) (col * 4 / 2 ^ sx / size);
  x = col * 4 / 2 ^ sx;
  y = row * 4 / 2 ^ sy;
  w = min (4 / 2 ^ sx) (w - col * 4 / 2 ^ sx);
  h = min (4 / 2 ^ sy) (h - row * 4 / 2 ^ sy);
  stripe_start_y = stripe_start_y_of sy ((row * 4 + 8) / 64);
  stripe_end_y = stripe_end_y_of sy ((row * 4 + 8) / 64);
  plane_end_x = pos w -ℤ pos 1;
  plane_end_y = pos h -ℤ pos 1;
}

-- the block that a row or a column of the plane lies in
unfoldable pub block_of : ℕ → ℕ → ℕ
block_of sub y = y * 2 ^ sub / 4
