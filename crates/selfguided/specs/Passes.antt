-- What the passes leave in the scratch: pass 0 the 5-6-5 sums of the rows that it counts, pass 1 a2 and b2 of every row.
use Rattle.std.specs.Prelude.{◌≡◌, List, ℕ, ◌+◌, ◌-◌, ◌*◌, ◌/◌, ◌≤◌, ◌<◌, ℤ, length}
use Rattle.laws.specs.Bounds.{Samples}
use Rattle.standard.specs.declared.Depth.{Depth}
use Rattle.standard.specs.Depths.{largest}
use Rattle.standard.specs.SelfGuided.{a2_at, b2_at}
use Rattle.boxes.specs.declared.scale.Scale.{Scale}
use Rattle.boxes.specs.Reads.{seen}
use Rattle.boxes.specs.Scales.{ScaleOf}
use Rattle.boxes.specs.BoxRows.{Run, Kept}
use Rattle.selfguided.specs.Weighing.{five_six}
use Rattle.selfguided.specs.Areas.{lines, six_a, six_b, cross_a, cross_b, used}

-- ---- one row of pass 0: its sums of a2 at a, of b2 at b
pub record SixSetting (z : Scale) (from line a b w : ℕ) (s : List ℤ) : Type 0 where
  pub before : from + 4 * (w + 6) + (w + 6) ≤ line
  pub lines_end : line + (4 * w + 16) + (w + 2) + (w + 2) ≤ a
  pub order : a + w ≤ b
  pub room : b + w ≤ length s
  pub samples : Samples (largest z.depth) from (from + 4 * (w + 6) + (w + 6)) s
  pub scaled : ScaleOf 2 z.eps z.depth z

pub record SixRow (z : Scale) (from line a b w : ℕ) (s t : List ℤ) : Type 0 where
  pub long : length t ≡ length s
  pub below : Kept 0 line s t
  pub middle : Kept (line + (4 * w + 16) + (w + 2) + (w + 2)) a s t
  pub between : Kept (a + w) b s t
  pub a2 : Run (λ j. five_six (λ i. a2_at z.depth 2 z.eps (seen (w + 6) s from) 2 (j + i + 2))) a w t
  pub b2 : Run (λ j. five_six (λ i. b2_at z.depth 2 z.eps (seen (w + 6) s from) 2 (j + i + 2))) b w t

-- ---- a whole pass of radius r
pub record Pass (r : ℕ) (z : Scale) (w h : ℕ) (s : List ℤ) : Type 0 where
  pub width : w ≤ 383
  pub height : h ≤ 64
  pub room : used w h ≤ length s
  pub samples : Samples (largest z.depth) 0 (lines w h) s
  pub scaled : ScaleOf r z.eps z.depth z

-- how many rows pass 0 counts; row k is row 2 k − 1 + odd of the results
abbrev pub counted : ℕ → ℕ → ℕ
counted h odd = (h + 3 - odd) / 2

-- the first n rows of each pass
pub record Sixed (d : Depth) (eps w h odd n : ℕ) (s t : List ℤ) : Type 0 where
  pub long : length t ≡ length s
  pub window : Kept 0 (lines w h) s t
  pub a2 : (k : ℕ) → k < n → Run (λ j. five_six (λ i. a2_at d 2 eps (seen (w + 6) s 0) (2 * k + odd + 2) (j + i + 2))) (six_a w h + k * w) w t
  pub b2 : (k : ℕ) → k < n → Run (λ j. five_six (λ i. b2_at d 2 eps (seen (w + 6) s 0) (2 * k + odd + 2) (j + i + 2))) (six_b w h + k * w) w t

pub record Crossed (d : Depth) (eps w h n : ℕ) (s t : List ℤ) : Type 0 where
  pub long : length t ≡ length s
  pub window : Kept 0 (lines w h) s t
  pub sixes : Kept (six_a w h) (cross_a w h) s t
  pub a2 : (y : ℕ) → y < n → Run (λ j. a2_at d 1 eps (seen (w + 6) s 0) (y + 2) (j + 2)) (cross_a w h + y * (w + 2)) (w + 2) t
  pub b2 : (y : ℕ) → y < n → Run (λ j. b2_at d 1 eps (seen (w + 6) s 0) (y + 2) (j + 2)) (cross_b w h + y * (w + 2)) (w + 2) t
