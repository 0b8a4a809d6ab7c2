-- A row of the stripe itself is a row of the first slice, and the middle of a sample's view is the sample.
use mathlib.Core.Path.{◌≡◌, sym, ◌∙◌, ap}
use mathlib.Core.List.{List}
use Prim.Native.Nat.{ℕ, ◌+◌, ◌*◌, ◌-◌, ◌≤◌, ◌<◌}
use native.Mathlib.Omega.{arith}
use native.Mathlib.Nat.{add-mul}
use borrow.Author.Tests.{lt-ltb, le-ltb}
use lib.IntN.{ℤ, pos, nat_abs}
use lib.ListN.{length, get_or}
use Rattle.laws.specs.Congruence.{ap2}
use Rattle.laws.specs.Bounds.{sample_is}
use Rattle.standard.specs.declared.Depth.{Depth}
use Rattle.standard.specs.declared.Kind.TheVariants.{None}
use Rattle.standard.specs.Depths.{largest}
use Rattle.standard.specs.Fetch.{near, restored}
use Rattle.fetch.specs.declared.Source.{Source}
use Rattle.fetch.specs.Source.{row_of, source_row, source_cell, inside_row}
use Rattle.fetch.proofs.Laws.{row_at}
use Rattle.rectangle.specs.View.{shown_at, Fetchable, Own}

middle : (n y : ℕ) → y < n → near n y 3 ≡ y
middle n y h = omega arith

module _ (d : Depth) (inside beside : List ℤ) (w h : ℕ) (r : Source) (f : Fetchable (largest d) inside beside w h r) (y0 rh : ℕ) (own : Own r y0 rh) where
  own_row : (i : ℕ) → i < rh → source_row inside beside w r (y0 + i) ≡ row_of inside w (inside_row r (y0 + i))
  unfolding source_row
  own_row i p = rw (le-ltb (y0 + i) r.start (omega (arith, own.after)), lt-ltb (y0 + i) r.stop (omega (arith, own.before)))

  pub own_room : 0 < rh → y0 + rh ≤ h → (r.inside + (y0 - r.start) + rh) * w ≤ length inside
  own_room p q = omega (arith, f.reach.inside_in (y0 + rh - 1) (omega arith) (omega (arith, own.after)) (omega (arith, own.before)), last)
    where
      last : (r.inside + (y0 - r.start) + rh) * w ≡ inside_row r (y0 + rh - 1) * w + w
      last = ap (λ (n : ℕ). n * w) {y = inside_row r (y0 + rh - 1) + 1} (omega (arith, own.after)) ∙ add-mul (inside_row r (y0 + rh - 1)) 1 w ∙ omega arith

  pub plain_value : (i x : ℕ) → i < rh → y0 + rh ≤ h → x < w → get_or inside ((r.inside + (y0 - r.start) + i) * w + x) (pos 0) ≡ shown_at d None inside beside w h r (y0 + i) x
  unfolding shown_at restored source_cell
  plain_value i x p q s =
      ap (λ (n : ℕ). get_or inside (n * w + x) (pos 0)) {y = inside_row r (y0 + i)} (omega (arith, own.after))
      ∙ sym (row_at inside w (inside_row r (y0 + i)) x s)
      ∙ ap (λ (l : List ℤ). get_or l x (pos 0)) (sym (own_row i p))
      ∙ sym (sample_is (f.legal (y0 + i) (omega arith)) x (omega arith) s)
      ∙ ap2 (λ (y k : ℕ). pos (nat_abs (get_or (source_row inside beside w r y) k (pos 0)))) (sym (middle h (y0 + i) (omega arith))) (sym (middle w x s))
