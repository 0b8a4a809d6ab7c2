-- The numbers of one pass fit each other, as its type keeps it.
use Rattle.std.specs.Prelude.{◌≡◌, ℕ, ◌+◌, ◌-◌, ◌*◌, ◌/◌, ◌^◌, ◌≤◌}
use Rattle.standard.specs.declared.Depth.{Depth}
use Rattle.standard.specs.Depths.{bits}

-- 266862592 is 255 · 2^20 − 2^19: from there on Round2 by 20 gives 255 or more
pub record Scaled (d : Depth) (s top ra sa rb sb : ℕ) : Type 0 where
  pub s_low : 1 ≤ s
  pub s_high : s ≤ 13235
  pub top_is : top ≡ (266862592 + s - 1) / s
  pub sa_is : sa ≡ 2 * (bits d - 8)
  pub sb_is : sb ≡ bits d - 8
  pub ra_is : ra ≡ 2 ^ sa / 2
  pub rb_is : rb ≡ 2 ^ sb / 2
