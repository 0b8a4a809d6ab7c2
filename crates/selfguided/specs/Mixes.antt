-- The weights of the projection fit each other, as their type keeps it.
use Rattle.std.specs.Prelude.{◌≡◌, ◌≤◌, ℤ, pos, ◌-ℤ◌, nat_abs}
use Rattle.standard.specs.declared.Depth.{Depth}
use Rattle.standard.specs.Depths.{largest}

pub record Mixed (d : Depth) (w0 w1 w2 top : ℤ) : Type 0 where
  pub w0_size : nat_abs w0 ≤ 96
  pub w2_size : nat_abs w2 ≤ 319
  pub w2_is : w2 ≡ pos 128 -ℤ w0 -ℤ w1
  pub top_is : top ≡ pos (largest d)
