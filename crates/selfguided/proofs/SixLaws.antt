-- The loop of pass 0: what a row finds, and what one row more leaves.
use mathlib.Core.Path.{◌≡◌, sym, ◌∙◌, ap, subst}
use mathlib.Core.List.{List}
use mathlib.Core.Logic.{◌⊎◌, inl, inr}
use Prim.Native.Nat.{ℕ, ◌+◌, ◌*◌, ◌≤◌, ◌<◌}
use native.Mathlib.Omega.{arith}
use native.Mathlib.Nat.{mul-le-mul_right}
use lib.IntN.{ℤ}
use Rattle.laws.specs.Index.{row_le}
use Rattle.laws.specs.Bounds.{samples_part}
use Rattle.standard.specs.SelfGuided.{a2_at, b2_at}
use Rattle.boxes.specs.declared.scale.Scale.{Scale}
use Rattle.boxes.specs.Reads.{seen}
use Rattle.boxes.specs.BoxRows.{Run}
use Rattle.boxes.proofs.RunLaws.{run_same, run_kept, kept_on, samples_kept}
use Rattle.boxes.proofs.BoxLaws.{a2_moved, b2_moved}
use Rattle.selfguided.specs.Weighing.{five_six}
use Rattle.selfguided.specs.declared.areas.Areas.{Areas}
use Rattle.selfguided.specs.Areas.{AreasOf, lines, six_a, six_b}
use Rattle.selfguided.specs.Passes.{SixSetting, SixRow, Pass, Sixed, counted}
use Rattle.selfguided.proofs.WeighLaws.{six_same}
use Rattle.selfguided.proofs.WindowLaws.{seen_from, last_or, at_places, of_places}

module _ {z : Scale} {w h odd : ℕ} {s : List ℤ} (P : Pass 2 z w h s) (bit : odd ≤ 1) where
  module _ {y : ℕ} {t : List ℤ} (C : Sixed z.depth z.eps w h odd y s t) (p : y < counted h odd) {at : Areas} (A : AreasOf w h at) where
    top_row : 2 * y + odd + 5 ≤ h + 6
    top_row = omega arith

    in_area : y < h + 2
    in_area = omega arith

    below_rows : (2 * y + odd) * (w + 6) + 4 * (w + 6) + (w + 6) ≤ (h + 6) * (w + 6)
    below_rows = omega (arith, mul-le-mul_right {m = 2 * y + odd + 5} {n = h + 6} (w + 6) top_row)

    setting : SixSetting z ((2 * y + odd) * (w + 6)) (lines w h) (six_a w h + y * w) (six_b w h + y * w) w t
    setting = record {
      before = below_rows;
      lines_end = omega arith;
      order = omega arith;
      room = omega (arith, C.long, P.room, row_le w in_area);
      samples = samples_part _ _ (samples_kept P.samples C.window) (omega arith) below_rows;
      scaled = P.scaled;
    }

    pub six_setting : SixSetting z ((2 * y + odd) * (w + 6)) at.line (at.six_a + y * w) (at.six_b + y * w) w t
    six_setting = at_places (λ (l a b : ℕ). SixSetting z ((2 * y + odd) * (w + 6)) l (a + y * w) (b + y * w) w t) A.line_is A.six_a_is A.six_b_is setting

    moved : (i j : ℕ) → i ≤ 4 → j ≤ w + 5 → seen (w + 6) t ((2 * y + odd) * (w + 6)) i j ≡ seen (w + 6) s 0 (2 * y + odd + i) (0 + j)
    moved i j u v = seen_from w h ((2 * y + odd) * (w + 6)) (2 * y + odd) 0 C.window (omega arith) i j (omega (arith, top_row)) (omega arith)

    module _ {u : List ℤ} (row : SixRow z ((2 * y + odd) * (w + 6)) at.line (at.six_a + y * w) (at.six_b + y * w) w t u) where
      e : SixRow z ((2 * y + odd) * (w + 6)) (lines w h) (six_a w h + y * w) (six_b w h + y * w) w t u
      e = of_places (λ (l a b : ℕ). SixRow z ((2 * y + odd) * (w + 6)) l (a + y * w) (b + y * w) w t u) A.line_is A.six_a_is A.six_b_is row

      new_a : Run (λ j. five_six (λ i. a2_at z.depth 2 z.eps (seen (w + 6) s 0) (2 * y + odd + 2) (j + i + 2))) (six_a w h + y * w) w u
      new_a = run_same _ e.a2 (λ j q. six_same _ _ (λ i l.
          a2_moved (seen (w + 6) s 0) (seen (w + 6) t ((2 * y + odd) * (w + 6))) (2 * y + odd) 0 4 (w + 5) moved z.depth 2 z.eps 2 (j + i + 2) (omega arith) (omega arith) (omega arith) (omega arith)
          ∙ ap (a2_at z.depth 2 z.eps (seen (w + 6) s 0) (2 * y + odd + 2)) (omega arith)))

      new_b : Run (λ j. five_six (λ i. b2_at z.depth 2 z.eps (seen (w + 6) s 0) (2 * y + odd + 2) (j + i + 2))) (six_b w h + y * w) w u
      new_b = run_same _ e.b2 (λ j q. six_same _ _ (λ i l.
          b2_moved (seen (w + 6) s 0) (seen (w + 6) t ((2 * y + odd) * (w + 6))) (2 * y + odd) 0 4 (w + 5) moved z.depth 2 z.eps 2 (j + i + 2) (omega arith) (omega arith) (omega arith) (omega arith)
          ∙ ap (b2_at z.depth 2 z.eps (seen (w + 6) s 0) (2 * y + odd + 2)) (omega arith)))

      rows_a : (k : ℕ) → (k ≡ y) ⊎ (k < y) → Run (λ j. five_six (λ i. a2_at z.depth 2 z.eps (seen (w + 6) s 0) (2 * k + odd + 2) (j + i + 2))) (six_a w h + k * w) w u
      rows_a k (inl q) = subst (λ (k : ℕ). Run (λ j. five_six (λ i. a2_at z.depth 2 z.eps (seen (w + 6) s 0) (2 * k + odd + 2) (j + i + 2))) (six_a w h + k * w) w u) (sym q) new_a
      rows_a k (inr q) = run_kept (C.a2 k q) e.middle (omega arith) (omega (arith, row_le w q))

      rows_b : (k : ℕ) → (k ≡ y) ⊎ (k < y) → Run (λ j. five_six (λ i. b2_at z.depth 2 z.eps (seen (w + 6) s 0) (2 * k + odd + 2) (j + i + 2))) (six_b w h + k * w) w u
      rows_b k (inl q) = subst (λ (k : ℕ). Run (λ j. five_six (λ i. b2_at z.depth 2 z.eps (seen (w + 6) s 0) (2 * k + odd + 2) (j + i + 2))) (six_b w h + k * w) w u) (sym q) new_b
      rows_b k (inr q) = run_kept (C.b2 k q) e.between (omega (arith, row_le w in_area)) (omega (arith, row_le w q))

      pub sixed_more : Sixed z.depth z.eps w h odd (y + 1) s u
      sixed_more = record {
        long = e.long ∙ C.long;
        window = kept_on C.window e.below;
        a2 = λ k q. rows_a k (last_or q);
        b2 = λ k q. rows_b k (last_or q);
      }
