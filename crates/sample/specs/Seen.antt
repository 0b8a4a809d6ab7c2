-- A window of 7 rows of 7 at the start of a list.
use Rattle.std.specs.Prelude.{List, ◌+◌, ◌*◌, ℤ, pos, nat_abs, get_or}
use Rattle.standard.specs.Wiener.{Grid}

unfoldable pub seen_at : List ℤ → Grid
seen_at s i j = nat_abs (get_or s (7 * i + j) (pos 0))
