-- Areas of the scratch by their values, and what a row of the box filter leaves: a2 and b2 at their places, four lines of its own
-- overwritten, all else as it was.
use Rattle.std.specs.Prelude.{◌≡◌, List, ℕ, ◌+◌, ◌*◌, ◌≤◌, ◌<◌, ℤ, pos, length, get_or}
use Rattle.laws.specs.Bounds.{Samples}
use Rattle.standard.specs.Depths.{largest}
use Rattle.standard.specs.SelfGuided.{a2_at, b2_at}
use Rattle.boxes.specs.declared.scale.Scale.{Scale}
use Rattle.boxes.specs.Reads.{seen}
use Rattle.boxes.specs.Scales.{ScaleOf}

-- n samples of f from place `at` on
pub record Run (f : ℕ → ℕ) (at n : ℕ) (l : List ℤ) : Type 0 where
  pub is : (j : ℕ) → j < n → get_or l (at + j) (pos 0) ≡ pos (f j)

-- the places lo .. hi − 1 of t are those of s
pub record Kept (lo hi : ℕ) (s t : List ℤ) : Type 0 where
  pub same : (k : ℕ) → lo ≤ k → k < hi → get_or t k (pos 0) ≡ get_or s k (pos 0)

-- the rows of the window from place `from` on, then four lines at `line`, then the places of the row of a2 and of the row of b2
pub record Setting (r : ℕ) (z : Scale) (from line a b w : ℕ) (s : List ℤ) : Type 0 where
  pub radius : r ≤ 2
  pub before : from + 2 * r * (w + 6) + (w + 2 + 2 * r) ≤ line
  pub lines : line + (4 * w + 16) ≤ a
  pub order : a + (w + 2) ≤ b
  pub room : b + (w + 2) ≤ length s
  pub samples : Samples (largest z.depth) from (from + 2 * r * (w + 6) + (w + 2 + 2 * r)) s
  pub scaled : ScaleOf r z.eps z.depth z

pub record BoxRow (r : ℕ) (z : Scale) (from line a b w : ℕ) (s t : List ℤ) : Type 0 where
  pub long : length t ≡ length s
  pub below : Kept 0 line s t
  pub middle : Kept (line + (4 * w + 16)) a s t
  pub between : Kept (a + (w + 2)) b s t
  pub above : Kept (b + (w + 2)) (length s) s t
  pub a2 : Run (λ j. a2_at z.depth r z.eps (seen (w + 6) s from) r (j + r)) a (w + 2) t
  pub b2 : Run (λ j. b2_at z.depth r z.eps (seen (w + 6) s from) r (j + r)) b (w + 2) t
