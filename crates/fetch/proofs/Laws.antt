-- A fetched row has w samples, and each is a sample of the slice that it was handed out of.
use mathlib.Core.Path.{◌≡◌, ◌∙◌}
use mathlib.Core.Bool.{Bool, true, false, cond}
use mathlib.Core.List.{List}
use Prim.Native.Nat.{ℕ, ◌+◌, ◌*◌, ◌≤◌, ◌<◌}
use native.Mathlib.Omega.{arith}
use lib.IntN.{ℤ, pos}
use lib.ListN.{length, get_or, drop, length-take, length-drop}
use lib.Dec.{ltb}
use Rattle.laws.specs.Index.{part_at}
use Rattle.laws.specs.Tests.{Test, below, above, test}
use Rattle.fetch.specs.declared.Source.{Source}
use Rattle.fetch.specs.Source.{row_of, over_row, under_row, inside_row, source_row, Reach}

pub row_long : (s : List ℤ) (w k : ℕ) → k * w + w ≤ length s → length (row_of s w k) ≡ w
unfolding row_of
row_long s w k h = length-take w (drop (k * w) s) ∙ omega (arith, length-drop (k * w) s)

pub row_at : (s : List ℤ) (w k x : ℕ) → x < w → get_or (row_of s w k) x (pos 0) ≡ get_or s (k * w + x) (pos 0)
unfolding row_of
row_at s w k x h = part_at (k * w) w s x (pos 0) h

pub source_long : {inside beside : List ℤ} {w h : ℕ} (r : Source) → Reach inside beside w h r → (y : ℕ) → y < h → length (source_row inside beside w r y) ≡ w
unfolding source_row
source_long {inside} {beside} {w} r p y l = go (ltb y r.start) (test y r.start) (ltb y r.stop) (test y r.stop)
  where
    go : (a : Bool) → Test y r.start a → (b : Bool) → Test y r.stop b →
        length (cond a (row_of beside w (over_row r y)) (cond b (row_of inside w (inside_row r y)) (row_of beside w (under_row r y)))) ≡ w
    go true (below u) b t = row_long beside w (over_row r y) (p.over_in y l u)
    go false (above u) true (below v) = row_long inside w (inside_row r y) (p.inside_in y l u v)
    go false (above u) false (above v) = row_long beside w (under_row r y) (p.under_in y l v)
