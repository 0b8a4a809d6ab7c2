-- Both routes read what their definition names: from two planes the standard's fetch, from the stripe's copy and the captured edge rows the
-- definition's source. Row numbers by linear arithmetic over the domain's two subsamplings.
use mathlib.Core.Path.{◌≡◌, ◌∙◌, ap, subst}
use mathlib.Core.Bool.{Bool, true, false, cond}
use mathlib.Core.List.{List}
use Prim.Native.Nat.{ℕ, suc, ◌+◌, ◌-◌, ◌*◌, ◌≤◌, ◌<◌, min, max}
use native.Mathlib.Omega.{arith}
use lib.IntN.{ℤ, pos, nat_abs}
use lib.ListN.{length, get_or}
use lib.Dec.{ltb}
use Rattle.laws.specs.Index.{row_le}
use Rattle.laws.specs.Tests.{Test, below, above, test}
use Rattle.standard.specs.Stripes.{stripe_start, stripe_stop, stripes}
use Rattle.standard.specs.Fetch.{fetch}
use Rattle.standard.specs.Planes.{grid, edges, source}
use Rattle.standard.proofs.Stripes.{Halved, full, half, next, stripe_exists}
use Rattle.fetch.specs.Source.{row_of, over_row, under_row, inside_row, source_row, source_cell, Reach, whole_source, stripe_source}
use Rattle.fetch.proofs.Laws.{row_at}

-- a stripe that does not start at row 0 starts at row 2 or later
start_two : {sy : ℕ} → Halved sy → (s : ℕ) → 0 < stripe_start sy s → (2 ≤ stripe_start sy s) × (1 ≤ s)
unfolding stripe_start
start_two full s p = (omega arith, omega arith)
start_two half s p = (omega arith, omega arith)

-- row numbers, in few variables
over_row_lem : (b y : ℕ) → 2 ≤ b → y < b → b - 2 + (y + 2 - b) ≡ max y (b - 2)
over_row_lem b y p q = omega arith

over_place : (b y : ℕ) → 2 ≤ b → y < b → y + 2 - b ≡ max y (b - 2) - (b - 2)
over_place b y p q = omega arith

under_row_lem : (e y : ℕ) → e ≤ y → e + min (y - e) 1 ≡ min y (e + 1)
under_row_lem e y p = omega arith

under_place : (e y : ℕ) → e ≤ y → min (y - e) 1 ≡ min y (e + 1) - e
under_place e y p = omega arith

-- a cell of a row that is handed out
cell : (s : List ℤ) (w k j x : ℕ) → x < w → k ≡ j → nat_abs (get_or (row_of s w k) x (pos 0)) ≡ nat_abs (get_or s (j * w + x) (pos 0))
cell s w k j x h e = ap nat_abs (row_at s w k x h ∙ ap (λ (i : ℕ). get_or s (i * w + x) (pos 0)) e)

-- ---- the whole plane
module _ {sy : ℕ} (hv : Halved sy) (C D : List ℤ) (w h s : ℕ) where
  pub whole_reach : length C ≡ h * w → length D ≡ h * w → stripe_start sy s < h → Reach C D w h (whole_source sy s)
  whole_reach c d p = record {
    over_in = λ y l q. omega (arith, row_le {y = over_row (whole_source sy s) y} {h = h} w (omega (arith, (start_two hv s (omega arith)).0)), d);
    inside_in = λ y l q r. omega (arith, row_le {y = inside_row (whole_source sy s) y} {h = h} w (omega arith), c);
    under_in = λ y l q. omega (arith, row_le {y = under_row (whole_source sy s) y} {h = h} w (omega (arith, under_row_lem (stripe_stop sy s) y q)), d);
  }

  pub whole_cell : (y x : ℕ) → x < w → source_cell C D w (whole_source sy s) y x ≡ fetch sy (grid w D) (grid w C) s y x
  unfolding source_cell source_row fetch grid
  whole_cell y x hx = go (ltb y (stripe_start sy s)) (test y (stripe_start sy s)) (ltb y (stripe_stop sy s)) (test y (stripe_stop sy s))
    where
      go : (a : Bool) → Test y (stripe_start sy s) a → (b : Bool) → Test y (stripe_stop sy s) b →
          nat_abs (get_or (cond a (row_of D w (over_row (whole_source sy s) y)) (cond b (row_of C w (inside_row (whole_source sy s) y)) (row_of D w (under_row (whole_source sy s) y)))) x (pos 0))
          ≡ cond a (grid w D (max y (stripe_start sy s - 2)) x) (cond b (grid w C y x) (grid w D (min y (stripe_stop sy s + 1)) x))
      go true (below p) b t = cell D w _ _ x hx (over_row_lem (stripe_start sy s) y (start_two hv s (omega arith)).0 p)
      go false (above p) true (below q) = cell C w _ _ x hx (omega arith)
      go false (above p) false (above q) = cell D w _ _ x hx (under_row_lem (stripe_stop sy s) y q)

-- ---- one stripe: rows of the plane P in the copy
pub record Copied (P copy : List ℤ) (w start n : ℕ) : Type 0 where
  pub long : n * w ≤ length copy
  pub same : (k x : ℕ) → k < n → x < w → get_or copy (k * w + x) (pos 0) ≡ get_or P ((start + k) * w + x) (pos 0)

module _ {sy : ℕ} (hv : Halved sy) (P copy E : List ℤ) (w h s : ℕ) (c : Copied P copy w (stripe_start sy s) (min h (stripe_stop sy s) - stripe_start sy s)) where
  -- the boundary of stripe t has its four rows there
  boundary : (n t k : ℕ) → length E ≡ 4 * w * (n - 1) → 1 ≤ t → t < n → k < 4 → (4 * (t - 1) + k) * w + w ≤ length E
  boundary n t k e p q r = omega (arith, row_le {y = 4 * (t - 1) + k} {h = 4 * (n - 1)} w (omega arith))

  place : (s m : ℕ) → 4 * (suc s - 1) + (2 + m) ≡ 4 * s + 2 + m
  place s m = omega arith

  pub stripe_reach : length E ≡ 4 * w * (stripes sy h - 1) → s < stripes sy h → 0 < h → Reach copy E w h (stripe_source sy s)
  stripe_reach e p q = record {
    over_in = λ y l u. boundary (stripes sy h) s (y + 2 - stripe_start sy s) e (start_two hv s (omega arith)).1 p (omega arith);
    inside_in = λ y l u v. omega (arith, c.long, row_le {y = inside_row (stripe_source sy s) y} {h = min h (stripe_stop sy s) - stripe_start sy s} w (omega arith));
    under_in = λ y l u. subst (λ (i : ℕ). i * w + w ≤ length E) (place s (min (y - stripe_stop sy s) 1)) (boundary (stripes sy h) (suc s) (2 + min (y - stripe_stop sy s) 1) e (omega arith) ((stripe_exists hv h (suc s) q).1 (omega (arith, next hv s))) (omega arith));
  }

  pub stripe_cell : (y x : ℕ) → y < h → x < w → source_cell copy E w (stripe_source sy s) y x ≡ source sy (edges w E) (grid w P) s y x
  unfolding source_cell source_row source grid edges
  stripe_cell y x hy hx = go (ltb y (stripe_start sy s)) (test y (stripe_start sy s)) (ltb y (stripe_stop sy s)) (test y (stripe_stop sy s))
    where
      go : (a : Bool) → Test y (stripe_start sy s) a → (b : Bool) → Test y (stripe_stop sy s) b →
          nat_abs (get_or (cond a (row_of E w (over_row (stripe_source sy s) y)) (cond b (row_of copy w (inside_row (stripe_source sy s) y)) (row_of E w (under_row (stripe_source sy s) y)))) x (pos 0))
          ≡ cond a (edges w E s (max y (stripe_start sy s - 2) - (stripe_start sy s - 2)) x) (cond b (grid w P y x) (edges w E (suc s) (2 + (min y (stripe_stop sy s + 1) - stripe_stop sy s)) x))
      go true (below p) b t = cell E w _ _ x hx (ap (λ (k : ℕ). 4 * (s - 1) + k) (over_place (stripe_start sy s) y (start_two hv s (omega arith)).0 p))
      go false (above p) true (below q) =
          cell copy w _ (y - stripe_start sy s) x hx (omega arith) ∙ ap nat_abs (c.same (y - stripe_start sy s) x (omega arith) hx ∙ ap (λ (k : ℕ). get_or P (k * w + x) (pos 0)) (omega arith))
      go false (above p) false (above q) = cell E w _ _ x hx (omega (arith, under_place (stripe_stop sy s) y q))
