-- The numbers of a plane that the geometry takes: its vertical subsampling, unit size, rows and columns.
use Rattle.std.specs.Prelude.{ℕ, ◌≤◌, ◌<◌}

pub record Legal (sy size h w : ℕ) : Type 0 where
  pub half : sy ≤ 1
  pub unit : 0 < size
  pub small : size ≤ 256
  pub rows : 0 < h
  pub high : h ≤ 16384
  pub columns : 0 < w
  pub wide : w ≤ 16384
