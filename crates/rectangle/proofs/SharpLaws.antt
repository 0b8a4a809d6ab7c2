-- The rows of a Wiener rectangle, by plain lists: a row read where it lies and a row read from its clamped copy give the same middle values.
use mathlib.Core.Path.{◌≡◌, sym, ◌∙◌, ap, subst}
use mathlib.Core.List.{List}
use Prim.Native.Nat.{ℕ, ◌+◌, ◌-◌, ◌≤◌, ◌<◌, min}
use native.Mathlib.Omega.{arith}
use native.Mathlib.Nat.{add_assoc}
use lib.IntN.{ℤ, pos, nat_abs}
use lib.Signed.{◌≤ℤ◌}
use lib.ListN.{length, get_or}
use Rattle.laws.specs.Congruence.{ap2}
use Rattle.laws.specs.Bounds.{Samples}
use Rattle.laws.specs.Runs.{stamp, stamp_inside}
use Rattle.standard.specs.declared.Depth.{Depth}
use Rattle.standard.specs.declared.Taps.{Taps}
use Rattle.standard.specs.declared.Kind.TheVariants.{Wiener}
use Rattle.standard.specs.Wiener.{Grid, across, wiener}
use Rattle.standard.specs.Fetch.{near, restored}
use Rattle.standard.proofs.Locality.{restored_local}
use Rattle.fetch.specs.declared.Source.{Source}
use Rattle.fetch.specs.Source.{source_row, source_cell, Reach}
use Rattle.fetch.proofs.Laws.{source_long}
use Rattle.rectangle.specs.View.{view_at}
use Rattle.wiener.specs.Passes.{biased, across_at}
use Rattle.wiener.proofs.WindowLaws.{across_same}

-- a clamped place is a place of the row
pub near_in : (w x k : ℕ) → 0 < w → near w x k < w
near_in w x k p = omega arith

-- where no clamp acts
near_free : (w x0 n x b : ℕ) → 3 ≤ x0 → x0 + n + 3 ≤ w → x < n → b < 7 → x0 - 3 + x + b ≡ near w x0 (x + b)
near_free w x0 n x b p q r s = omega arith

-- ---- a clamped copy of a row's part
module _ (row line0 line : List ℤ) (x0 n : ℕ) (e : line ≡ stamp (λ k. get_or row (near (length row) x0 k) (pos 0)) 0 n line0) (long : n ≤ length line0) (some : 0 < length row) where
  pub copied_at : (k : ℕ) → k < n → get_or line k (pos 0) ≡ get_or row (near (length row) x0 k) (pos 0)
  copied_at k h = ap (λ (l : List ℤ). get_or l k (pos 0)) e ∙ ap (λ (i : ℕ). get_or (stamp (λ k. get_or row (near (length row) x0 k) (pos 0)) 0 n line0) i (pos 0)) {y = 0 + k} (omega arith) ∙ stamp_inside _ 0 n line0 k (pos 0) h (omega arith)

  pub copied_samples : (m : ℕ) → Samples m 0 (length row) row → Samples m 0 n line
  copied_samples m p = record {
    low = λ k u v. subst (λ (z : ℤ). pos 0 ≤ℤ z) (sym (copied_at k v)) (p.low _ (omega arith) (near_in (length row) x0 k some));
    size = λ k u v. subst (λ (z : ℤ). nat_abs z ≤ m) (sym (copied_at k v)) (p.size _ (omega arith) (near_in (length row) x0 k some));
  }

  pub copied_value : (d : Depth) (t : Taps) (x : ℕ) → x + 6 < n →
      across_at d t line (0 + x) ≡ biased d (across d t (λ _ b. nat_abs (get_or row (near (length row) x0 (x + b)) (pos 0))) 0)
  copied_value d t x h = ap (biased d) (across_same d t _ _ 0 0 (λ b v. ap nat_abs (ap (λ (i : ℕ). get_or line i (pos 0)) {y = x + b} (omega arith) ∙ copied_at (x + b) (omega arith))))

-- ---- the row itself
pub direct_value : (d : Depth) (t : Taps) (row : List ℤ) (x0 n x : ℕ) → 3 ≤ x0 → x0 + n + 3 ≤ length row → x < n →
    across_at d t row (x0 - 3 + x) ≡ biased d (across d t (λ _ b. nat_abs (get_or row (near (length row) x0 (x + b)) (pos 0))) 0)
direct_value d t row x0 n x p q r = ap (biased d) (across_same d t _ _ 0 0 (λ b v. ap (λ (i : ℕ). nat_abs (get_or row i (pos 0))) (near_free (length row) x0 n x b p q r v)))

-- ---- a row that the source hands out
pub handed_long : {inside beside row : List ℤ} {w h y : ℕ} (r : Source) → Reach inside beside w h r → (y0 k : ℕ) → 0 < h → row ≡ source_row inside beside w r y → y ≡ near h y0 k → length row ≡ w
handed_long {h = h} {y} r reach y0 k p e f = ap length e ∙ source_long r reach y (omega (arith, f, near_in h y0 k p))

pub handed_value : (d : Depth) (t : Taps) (inside beside : List ℤ) (w h : ℕ) (r : Source) (x0 y0 k y : ℕ) (row : List ℤ) → row ≡ source_row inside beside w r y → y ≡ near h y0 k → length row ≡ w → (x : ℕ) →
    biased d (across d t (λ _ b. nat_abs (get_or row (near (length row) x0 (x + b)) (pos 0))) 0)
    ≡ biased d (across d t (λ _ b. source_cell inside beside w r (near h y0 k) (near w x0 (x + b))) 0)
unfolding source_cell
handed_value d t inside beside w h r x0 y0 k y row e f g x = ap (biased d) (across_same d t _ _ 0 0 (λ b v.
    ap2 (λ (l : List ℤ) (i : ℕ). nat_abs (get_or l i (pos 0))) (e ∙ ap (source_row inside beside w r) f) (ap (λ (n : ℕ). near n x0 (x + b)) g)))

-- ---- the whole rectangle: the vertical pass over these rows gives the filter of the view
view_is : (h w y0 x0 i j a b : ℕ) → (near h y0 (i + a) ≡ near h (y0 + i) a) × (near w x0 (j + b) ≡ near w (x0 + j) b)
view_is h w y0 x0 i j a b = (ap (λ (n : ℕ). min (n - 3) (h - 1)) (sym (add_assoc y0 i a)), ap (λ (n : ℕ). min (n - 3) (w - 1)) (sym (add_assoc x0 j b)))

module _ (inside beside : List ℤ) (w h : ℕ) (r : Source) (x0 y0 : ℕ) where
  abbrev pub part : Grid
  part i j = source_cell inside beside w r (near h y0 i) (near w x0 j)

  pub part_is : (i j a b : ℕ) → part (i + a) (j + b) ≡ view_at inside beside w h r (y0 + i) (x0 + j) a b
  part_is i j a b = ap2 (source_cell inside beside w r) (view_is h w y0 x0 i j a b).0 (view_is h w y0 x0 i j a b).1

  pub wiener_part : (d : Depth) (t : Taps) (i j : ℕ) → wiener d t (λ a b. part (i + a) (j + b)) ≡ wiener d t (view_at inside beside w h r (y0 + i) (x0 + j))
  unfolding restored
  wiener_part d t i j = restored_local (record { same = λ a b p q. part_is i j a b }) d 0 (Wiener t)
