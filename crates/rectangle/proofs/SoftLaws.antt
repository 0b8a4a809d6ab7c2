-- A gathered window: its places are what the source shows, so the filter over it is the filter of each sample's view.
use mathlib.Core.Path.{◌≡◌, sym, ◌∙◌, ap, subst}
use mathlib.Core.List.{List}
use Prim.Native.Nat.{ℕ, ◌+◌, ◌*◌, ◌/◌, ◌%◌, ◌≤◌, ◌<◌}
use native.Mathlib.Omega.{arith}
use native.Mathlib.Nat.{mod-add-mod, mul-le-mul, mul_comm, mul_assoc}
use lib.IntN.{ℤ, pos, nat_abs}
use lib.Signed.{◌≤ℤ◌}
use lib.ListN.{length, get_or}
use Rattle.laws.specs.Bounds.{Samples}
use Rattle.laws.specs.Index.{cell_of, of_lt}
use Rattle.laws.specs.Paint.{paint}
use Rattle.laws.specs.Rows.{rows, area_at}
use Rattle.standard.specs.declared.Depth.{Depth}
use Rattle.standard.specs.declared.Weights.{Weights}
use Rattle.standard.specs.declared.Taps.{Taps}
use Rattle.standard.specs.declared.Kind.{Kind}
use Rattle.standard.specs.declared.Kind.TheVariants.{Wiener, SelfGuided}
use Rattle.standard.specs.Depths.{largest}
use Rattle.standard.specs.SelfGuided.{self_guided}
use Rattle.standard.specs.Fetch.{near, restored}
use Rattle.standard.specs.Wiener.{Grid, wiener}
use Rattle.standard.proofs.Locality.{restored_local}
use Rattle.standard.proofs.Parity.{restored_parity}
use Rattle.fetch.specs.declared.Source.{Source}
use Rattle.fetch.specs.Source.{source_row, source_cell}
use Rattle.rectangle.specs.View.{view_at, shown_at, Fetchable, Sides}
use Rattle.rectangle.proofs.SharpLaws.{near_in, part, part_is}

-- only the parity of the row counts
row_parity : (d : Depth) (s : Weights) (v : Grid) (y i : ℕ) → self_guided d (y % 2 + i) s v ≡ self_guided d (y + i) s v
unfolding restored
row_parity d s v y i = restored_parity d (y % 2 + i) (SelfGuided s) v ∙ ap (λ (n : ℕ). self_guided d n s v) (mod-add-mod y 2 i) ∙ sym (restored_parity d (y + i) (SelfGuided s) v)

guided_local : (d : Depth) (y : ℕ) (s : Weights) (v w : Grid) → ((a b : ℕ) → a ≤ 6 → b ≤ 6 → v a b ≡ w a b) → self_guided d y s v ≡ self_guided d y s w
unfolding restored
guided_local d y s v w h = restored_local (record { same = h }) d y (SelfGuided s)

module _ (d : Depth) (inside beside : List ℤ) (w h : ℕ) (r : Source) (f : Fetchable (largest d) inside beside w h r) (sides : Sides w h) (x0 y0 m n : ℕ) (s0 s : List ℤ)
    (e : s ≡ rows (λ k j. get_or (source_row inside beside w r (near h y0 k)) (near w x0 j) (pos 0)) 0 m m n s0) (room : n * m ≤ length s0) where
  gathered_at : (k j : ℕ) → k < n → j < m → get_or s (k * m + j) (pos 0) ≡ get_or (source_row inside beside w r (near h y0 k)) (near w x0 j) (pos 0)
  gathered_at k j p q = ap (λ (i : ℕ). get_or s i (pos 0)) {y = 0 + k * m + j} (omega arith) ∙ area_at _ 0 m n s0 s k j (pos 0) e (omega arith) p q

  gathered_cell : (k j : ℕ) → k < n → j < m → nat_abs (get_or s (k * m + j) (pos 0)) ≡ part inside beside w h r x0 y0 k j
  unfolding source_cell
  gathered_cell k j p q = ap nat_abs (gathered_at k j p q)

  pub gathered_samples : Samples (largest d) 0 (n * m) s
  gathered_samples = record {
    low = λ k u v. subst (λ (z : ℤ). pos 0 ≤ℤ z) (sym (at k v)) ((row k v).low _ (omega arith) (column k v));
    size = λ k u v. subst (λ (z : ℤ). nat_abs z ≤ largest d) (sym (at k v)) ((row k v).size _ (omega arith) (column k v));
  }
    where
      at : (k : ℕ) → k < n * m → get_or s k (pos 0) ≡ get_or (source_row inside beside w r (near h y0 (k / m))) (near w x0 (k % m)) (pos 0)
      at k v = let c : (k / m < n) × (k % m < m) = of_lt v in ap (λ (i : ℕ). get_or s i (pos 0)) (cell_of k m) ∙ gathered_at (k / m) (k % m) c.0 c.1

      row : (k : ℕ) → k < n * m → Samples (largest d) 0 w (source_row inside beside w r (near h y0 (k / m)))
      row k v = f.legal (near h y0 (k / m)) (near_in h y0 (k / m) sides.high)

      column : (k : ℕ) → k < n * m → near w x0 (k % m) < w
      column k v = near_in w x0 (k % m) sides.wide

  pub guided_part : (t : Weights) (i j : ℕ) → i + 6 < n → j + 6 < m →
      self_guided d (y0 % 2 + i) t (λ a b. nat_abs (get_or s ((i + a) * m + (j + b)) (pos 0))) ≡ self_guided d (y0 + i) t (view_at inside beside w h r (y0 + i) (x0 + j))
  guided_part t i j p q = row_parity d t _ y0 i ∙ guided_local d (y0 + i) t _ _ (λ a b u v. gathered_cell (i + a) (j + b) (omega arith) (omega arith) ∙ part_is inside beside w h r x0 y0 i j a b)

-- the window fits in the scratch of the filter
pub scratch_room : (w h : ℕ) → (h + 6) * (w + 6) ≤ 6 * (w + 8) * (h + 8)
scratch_room w h = omega (arith, mul-le-mul {n₁ = h + 6} {m₁ = w + 6} {n₂ = h + 8} {m₂ = w + 8} (omega arith) (omega arith), mul_comm (h + 8) (w + 8), mul_assoc 6 (w + 8) (h + 8))

-- ---- the arms of the definition, where the unit's kind is known
pub sharp_shown : (d : Depth) (k : Kind) (t : Taps) (inside beside : List ℤ) (w h : ℕ) (r : Source) (x0 y0 m n : ℕ) (out : List ℤ) → k ≡ Wiener t →
    paint x0 y0 m n w (λ y x. pos (wiener d t (view_at inside beside w h r y x))) out ≡ paint x0 y0 m n w (shown_at d k inside beside w h r) out
unfolding shown_at restored
sharp_shown d k t inside beside w h r x0 y0 m n out e = rw e

pub soft_shown : (d : Depth) (k : Kind) (t : Weights) (inside beside : List ℤ) (w h : ℕ) (r : Source) (x0 y0 m n : ℕ) (out : List ℤ) → k ≡ SelfGuided t →
    paint x0 y0 m n w (λ y x. pos (self_guided d y t (view_at inside beside w h r y x))) out ≡ paint x0 y0 m n w (shown_at d k inside beside w h r) out
unfolding shown_at restored
soft_shown d k t inside beside w h r x0 y0 m n out e = rw e
