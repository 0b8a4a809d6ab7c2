-- What a stripe's source shows round a sample, and what the rows that it hands out must meet.
use Rattle.std.specs.Prelude.{List, ℕ, ◌+◌, ◌≤◌, ◌<◌, ℤ, pos}
use Rattle.laws.specs.Bounds.{Samples}
use Rattle.standard.specs.declared.Depth.{Depth}
use Rattle.standard.specs.declared.Kind.{Kind}
use Rattle.standard.specs.Wiener.{Grid}
use Rattle.standard.specs.Fetch.{near, restored}
use Rattle.fetch.specs.declared.Source.{Source}
use Rattle.fetch.specs.Source.{source_row, source_cell, Reach}

-- the window round the sample y, x of a plane of h rows and w columns
abbrev pub view_at : List ℤ → List ℤ → ℕ → ℕ → Source → ℕ → ℕ → Grid
view_at inside beside w h r y x i j = source_cell inside beside w r (near h y i) (near w x j)

-- the restored sample there
unfoldable pub shown_at : Depth → Kind → List ℤ → List ℤ → ℕ → ℕ → Source → ℕ → ℕ → ℤ
shown_at d kind inside beside w h r y x = pos (restored d y kind (view_at inside beside w h r y x))

-- every row of the plane can be handed out, and holds samples 0 .. m
pub record Fetchable (m : ℕ) (inside beside : List ℤ) (w h : ℕ) (r : Source) : Type 0 where
  pub reach : Reach inside beside w h r
  pub legal : (y : ℕ) → y < h → Samples m 0 w (source_row inside beside w r y)
  pub over_low : r.over ≤ 20000
  pub inside_low : r.inside ≤ 20000
  pub under_low : r.under ≤ 20000

-- the sides of a plane, and a rectangle of it that a filter can take
pub record Sides (w h : ℕ) : Type 0 where
  pub wide : 0 < w
  pub high : 0 < h
  pub wide_low : w ≤ 16384
  pub high_low : h ≤ 16384

-- rows that are the stripe's own
pub record Own (r : Source) (y0 rh : ℕ) : Type 0 where
  pub after : r.start ≤ y0
  pub before : y0 + rh ≤ r.stop
