-- A slice without a negative number.
use Rattle.std.specs.Prelude.{List, ℕ, ◌<◌, ℤ, pos, length, get_or, ◌≤ℤ◌}

pub record Whole (s : List ℤ) : Type 0 where
  pub low : (k : ℕ) → k < length s → pos 0 ≤ℤ get_or s k (pos 0)
