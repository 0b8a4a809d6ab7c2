-- The scratch of a window of h rows of w results: the window itself, four lines of a row of sums, a row of a2 and one of b2, then the
-- 5-6-5 sums of pass 0 and the a2 and b2 of pass 1.
use Rattle.std.specs.Prelude.{◌≡◌, ℕ, ◌+◌, ◌*◌}
use Rattle.selfguided.specs.declared.areas.Areas.{Areas}

abbrev pub lines : ℕ → ℕ → ℕ
lines w h = (h + 6) * (w + 6)

abbrev pub row_a : ℕ → ℕ → ℕ
row_a w h = lines w h + (4 * w + 16)

abbrev pub row_b : ℕ → ℕ → ℕ
row_b w h = row_a w h + (w + 2)

abbrev pub six_a : ℕ → ℕ → ℕ
six_a w h = row_b w h + (w + 2)

abbrev pub six_b : ℕ → ℕ → ℕ
six_b w h = six_a w h + (h + 2) * w

abbrev pub cross_a : ℕ → ℕ → ℕ
cross_a w h = six_b w h + (h + 2) * w

abbrev pub cross_b : ℕ → ℕ → ℕ
cross_b w h = cross_a w h + (h + 2) * (w + 2)

abbrev pub used : ℕ → ℕ → ℕ
used w h = cross_b w h + (h + 2) * (w + 2)

-- the places as code holds them
pub record AreasOf (w h : ℕ) (p : Areas) : Type 0 where
  pub line_is : p.line ≡ lines w h
  pub six_a_is : p.six_a ≡ six_a w h
  pub six_b_is : p.six_b ≡ six_b w h
  pub cross_a_is : p.cross_a ≡ cross_a w h
  pub cross_b_is : p.cross_b ≡ cross_b w h
