-- The sizes of what a pass does to a sum, as its type keeps them.
use Rattle.std.specs.Prelude.{ℕ, ◌<◌, ◌≤◌, ℤ, nat_abs, ◌≤ℤ◌}
use Rattle.std.specs.Int.Signed.{mag}

pub record Mild (add : ℤ) (shift : ℕ) (low high : ℤ) : Type 0 where
  pub add_size : nat_abs add ≤ 16777216
  pub shift_size : shift ≤ 20
  pub low_size : mag low < 32768
  pub high_size : mag high < 32768
  pub order : low ≤ℤ high
