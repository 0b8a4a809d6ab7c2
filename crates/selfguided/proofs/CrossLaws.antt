-- The loop of pass 1: what a row finds, and what one row more leaves.
use mathlib.Core.Path.{◌≡◌, refl, sym, ◌∙◌, subst}
use mathlib.Core.List.{List}
use mathlib.Core.Logic.{◌⊎◌, inl, inr}
use Prim.Native.Nat.{ℕ, ◌+◌, ◌*◌, ◌≤◌, ◌<◌}
use native.Mathlib.Omega.{arith}
use native.Mathlib.Nat.{mul-le-mul_right}
use lib.IntN.{ℤ}
use Rattle.laws.specs.Congruence.{ap2}
use Rattle.laws.specs.Index.{row_le}
use Rattle.laws.specs.Bounds.{samples_part}
use Rattle.standard.specs.SelfGuided.{a2_at, b2_at}
use Rattle.boxes.specs.declared.scale.Scale.{Scale}
use Rattle.boxes.specs.Reads.{seen}
use Rattle.boxes.specs.BoxRows.{Run, Setting, BoxRow}
use Rattle.boxes.proofs.RunLaws.{run_same, run_kept, kept_on, kept_part, samples_kept}
use Rattle.boxes.proofs.BoxLaws.{a2_moved, b2_moved}
use Rattle.selfguided.specs.declared.areas.Areas.{Areas}
use Rattle.selfguided.specs.Areas.{AreasOf, lines, cross_a, cross_b}
use Rattle.selfguided.specs.Passes.{Pass, Crossed}
use Rattle.selfguided.proofs.WindowLaws.{seen_from, last_or, at_places, of_places}

module _ {z : Scale} {w h : ℕ} {s : List ℤ} (P : Pass 1 z w h s) where
  module _ {y : ℕ} {t : List ℤ} (C : Crossed z.depth z.eps w h y s t) (p : y < h + 2) {at : Areas} (A : AreasOf w h at) where
    below_rows : (y + 1) * (w + 6) + (w + 6) + (w + 6) + (w + 6) ≤ (h + 6) * (w + 6)
    below_rows = omega (arith, mul-le-mul_right {m = y + 4} {n = h + 6} (w + 6) (omega arith))

    setting : Setting 1 z ((y + 1) * (w + 6) + 1) (lines w h) (cross_a w h + y * (w + 2)) (cross_b w h + y * (w + 2)) w t
    setting = record {
      radius = omega arith;
      before = omega (arith, below_rows);
      lines = omega arith;
      order = omega arith;
      room = omega (arith, C.long, P.room, row_le (w + 2) p);
      samples = samples_part _ _ (samples_kept P.samples C.window) (omega arith) (omega (arith, below_rows));
      scaled = P.scaled;
    }

    pub cross_setting : Setting 1 z ((y + 1) * (w + 6) + 1) at.line (at.cross_a + y * (w + 2)) (at.cross_b + y * (w + 2)) w t
    cross_setting = at_places (λ (l a b : ℕ). Setting 1 z ((y + 1) * (w + 6) + 1) l (a + y * (w + 2)) (b + y * (w + 2)) w t) A.line_is A.cross_a_is A.cross_b_is setting

    moved : (i j : ℕ) → i ≤ 2 → j ≤ w + 3 → seen (w + 6) t ((y + 1) * (w + 6) + 1) i j ≡ seen (w + 6) s 0 (y + 1 + i) (1 + j)
    moved i j u v = seen_from w h ((y + 1) * (w + 6) + 1) (y + 1) 1 C.window refl i j (omega arith) (omega arith)

    module _ {u : List ℤ} (row : BoxRow 1 z ((y + 1) * (w + 6) + 1) at.line (at.cross_a + y * (w + 2)) (at.cross_b + y * (w + 2)) w t u) where
      e : BoxRow 1 z ((y + 1) * (w + 6) + 1) (lines w h) (cross_a w h + y * (w + 2)) (cross_b w h + y * (w + 2)) w t u
      e = of_places (λ (l a b : ℕ). BoxRow 1 z ((y + 1) * (w + 6) + 1) l (a + y * (w + 2)) (b + y * (w + 2)) w t u) A.line_is A.cross_a_is A.cross_b_is row

      new_a : Run (λ j. a2_at z.depth 1 z.eps (seen (w + 6) s 0) (y + 2) (j + 2)) (cross_a w h + y * (w + 2)) (w + 2) u
      new_a = run_same _ e.a2 (λ j q. a2_moved (seen (w + 6) s 0) (seen (w + 6) t ((y + 1) * (w + 6) + 1)) (y + 1) 1 2 (w + 3) moved z.depth 1 z.eps 1 (j + 1) (omega arith) (omega arith) (omega arith) (omega arith)
          ∙ ap2 (a2_at z.depth 1 z.eps (seen (w + 6) s 0)) (omega arith) (omega arith))

      new_b : Run (λ j. b2_at z.depth 1 z.eps (seen (w + 6) s 0) (y + 2) (j + 2)) (cross_b w h + y * (w + 2)) (w + 2) u
      new_b = run_same _ e.b2 (λ j q. b2_moved (seen (w + 6) s 0) (seen (w + 6) t ((y + 1) * (w + 6) + 1)) (y + 1) 1 2 (w + 3) moved z.depth 1 z.eps 1 (j + 1) (omega arith) (omega arith) (omega arith) (omega arith)
          ∙ ap2 (b2_at z.depth 1 z.eps (seen (w + 6) s 0)) (omega arith) (omega arith))

      rows_a : (k : ℕ) → (k ≡ y) ⊎ (k < y) → Run (λ j. a2_at z.depth 1 z.eps (seen (w + 6) s 0) (k + 2) (j + 2)) (cross_a w h + k * (w + 2)) (w + 2) u
      rows_a k (inl q) = subst (λ (k : ℕ). Run (λ j. a2_at z.depth 1 z.eps (seen (w + 6) s 0) (k + 2) (j + 2)) (cross_a w h + k * (w + 2)) (w + 2) u) (sym q) new_a
      rows_a k (inr q) = run_kept (C.a2 k q) e.middle (omega arith) (omega (arith, row_le (w + 2) q))

      rows_b : (k : ℕ) → (k ≡ y) ⊎ (k < y) → Run (λ j. b2_at z.depth 1 z.eps (seen (w + 6) s 0) (k + 2) (j + 2)) (cross_b w h + k * (w + 2)) (w + 2) u
      rows_b k (inl q) = subst (λ (k : ℕ). Run (λ j. b2_at z.depth 1 z.eps (seen (w + 6) s 0) (k + 2) (j + 2)) (cross_b w h + k * (w + 2)) (w + 2) u) (sym q) new_b
      rows_b k (inr q) = run_kept (C.b2 k q) e.between (omega (arith, row_le (w + 2) p)) (omega (arith, row_le (w + 2) q))

      pub crossed_more : Crossed z.depth z.eps w h (y + 1) s u
      crossed_more = record {
        long = e.long ∙ C.long;
        window = kept_on C.window e.below;
        sixes = kept_on C.sixes (kept_part _ _ e.middle (omega arith) (omega arith));
        a2 = λ k q. rows_a k (last_or q);
        b2 = λ k q. rows_b k (last_or q);
      }
