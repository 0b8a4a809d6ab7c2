-- Where the rows of one stripe's window lie: its own rows in one slice, the rows beside it in another. Row numbers count rows of w samples.
use Rattle.std.specs.Prelude.{cond, List, ℕ, ◌+◌, ◌-◌, ◌*◌, ◌≤◌, ◌<◌, min, ℤ, pos, nat_abs, length, get_or, take, drop, ltb}
use Rattle.standard.specs.Wiener.{Grid}
use Rattle.standard.specs.Stripes.{stripe_start, stripe_stop}
use Rattle.fetch.specs.declared.Source.{Source}

-- row k of a slice
unfoldable pub row_of : List ℤ → ℕ → ℕ → List ℤ
row_of s w k = take w (drop (k * w) s)

-- the row of `beside` that stands above the stripe for row y, and the one below it: the nearer of two
abbrev pub over_row : Source → ℕ → ℕ
over_row r y = r.over + (y + 2 - r.start)

abbrev pub under_row : Source → ℕ → ℕ
under_row r y = r.under + min (y - r.stop) 1

abbrev pub inside_row : Source → ℕ → ℕ
inside_row r y = r.inside + (y - r.start)

-- row y of the plane, as the stripe reads it
unfoldable pub source_row : List ℤ → List ℤ → ℕ → Source → ℕ → List ℤ
source_row inside beside w r y =
    cond (ltb y r.start) (row_of beside w (over_row r y))
    (cond (ltb y r.stop) (row_of inside w (inside_row r y)) (row_of beside w (under_row r y)))

unfoldable pub source_cell : List ℤ → List ℤ → ℕ → Source → Grid
source_cell inside beside w r y x = nat_abs (get_or (source_row inside beside w r y) x (pos 0))

-- the rows that are named are there, for each row of a plane of h rows
pub record Reach (inside beside : List ℤ) (w h : ℕ) (r : Source) : Type 0 where
  pub over_in : (y : ℕ) → y < h → y < r.start → over_row r y * w + w ≤ length beside
  pub inside_in : (y : ℕ) → y < h → r.start ≤ y → y < r.stop → inside_row r y * w + w ≤ length inside
  pub under_in : (y : ℕ) → y < h → r.stop ≤ y → under_row r y * w + w ≤ length beside

-- ---- the two routes
-- of a whole plane: both slices are planes
abbrev pub whole_source : ℕ → ℕ → Source
whole_source sy s = record { start = stripe_start sy s; stop = stripe_stop sy s; inside = stripe_start sy s; over = stripe_start sy s - 2; under = stripe_stop sy s }

-- of one stripe: its copy, and the captured edge rows
abbrev pub stripe_source : ℕ → ℕ → Source
stripe_source sy s = record { start = stripe_start sy s; stop = stripe_stop sy s; inside = 0; over = 4 * (s - 1); under = 4 * s + 2 }
