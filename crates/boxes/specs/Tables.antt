-- What a row of a2 or b2 reads: the table of a2, and the bounds under which b2 fits.
use Rattle.std.specs.Prelude.{◌≡◌, List, ℕ, ◌*◌, ◌≤◌, ◌<◌, ℤ, pos, get_or}
use Rattle.laws.specs.Bounds.{Samples}
use Rattle.standard.specs.SelfGuided.{a2_of}
use Rattle.boxes.specs.Reads.{sample_at}

pub record A2Table (t : List ℤ) : Type 0 where
  pub holds : (z : ℕ) → z < 256 → get_or t z (pos 0) ≡ pos (a2_of z)

-- a2 is 1 .. 256
pub record Shares (lo hi : ℕ) (s : List ℤ) : Type 0 where
  pub whole : Samples 256 lo hi s
  pub some : (k : ℕ) → lo ≤ k → k < hi → 1 ≤ sample_at s k

-- sums of a box whose one_over is o: 25 · 4095 · 164, and 9 · 4095 · 455 is less
pub record Weighed (o lo hi : ℕ) (s : List ℤ) : Type 0 where
  pub whole : Samples 102375 lo hi s
  pub small : (k : ℕ) → lo ≤ k → k < hi → sample_at s k * o ≤ 16789500
