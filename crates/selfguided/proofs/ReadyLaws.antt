-- What a row of results reads is there and in range.
use mathlib.Core.Path.{◌≡◌, sym, ◌∙◌, ap, subst}
use mathlib.Core.List.{List}
use Prim.Native.Nat.{ℕ, ◌+◌, ◌-◌, ◌*◌, ◌/◌, ◌%◌, ◌≤◌, ◌<◌}
use native.Mathlib.Omega.{arith}
use native.Mathlib.Nat.{mul-le-mul_right}
use lib.IntN.{ℤ, pos, nat_abs}
use lib.ListN.{get_or}
use Rattle.laws.specs.Index.{cell_of, of_lt}
use Rattle.laws.specs.Bounds.{Samples, samples_part}
use Rattle.standard.specs.declared.Depth.{Depth}
use Rattle.standard.specs.declared.Weights.{Weights}
use Rattle.standard.specs.Depths.{largest}
use Rattle.standard.specs.SelfGuided.{sgr, a2_at, b2_at}
use Rattle.boxes.specs.Reads.{seen}
use Rattle.boxes.specs.BoxRows.{Run}
use Rattle.boxes.proofs.Words.{not_negative, samples_widen}
use Rattle.boxes.proofs.ScaleLaws.{largest_most}
use Rattle.boxes.proofs.BoxLaws.{a2_bounded, b2_bounded}
use Rattle.selfguided.specs.declared.spots.Spots.{Spots}
use Rattle.selfguided.specs.Areas.{six_a, six_b, cross_a, cross_b}
use Rattle.selfguided.specs.Weighing.{five_six}
use Rattle.selfguided.specs.Passes.{counted}
use Rattle.selfguided.specs.Finals.{Source, Sixes, Crosses}
use Rattle.selfguided.specs.Windows.{Ready, SpotsOf}
use Rattle.selfguided.proofs.WeighLaws.{six_small}
use Rattle.selfguided.proofs.WindowLaws.{seen_small}

-- n rows of w, end to end
module _ (f : ℕ → ℕ → ℕ) (from w n m : ℕ) (t : List ℤ) (runs : (k : ℕ) → k < n → Run (f k) (from + k * w) w t) (small : (k x : ℕ) → k < n → x < w → f k x ≤ m) where
  cell_is : (q : ℕ) → from ≤ q → ((q - from) / w < n) × ((q - from) % w < w) → get_or t q (pos 0) ≡ pos (f ((q - from) / w) ((q - from) % w))
  cell_is q h r = ap (λ (k : ℕ). get_or t k (pos 0)) (omega (arith, cell_of (q - from) w)) ∙ (runs ((q - from) / w) r.0).is ((q - from) % w) r.1

  pub area_samples : Samples m from (from + n * w) t
  area_samples = record {
    low = λ q u v. not_negative (cell_is q u (of_lt {i = q - from} {h = n} {w = w} (omega arith)));
    size = λ q u v. let r = of_lt {i = q - from} {h = n} {w = w} (omega arith) in subst (λ (z : ℤ). nat_abs z ≤ m) (sym (cell_is q u r)) (small ((q - from) / w) ((q - from) % w) r.0 r.1);
  }

module _ {d : Depth} {w h odd : ℕ} {weights : Weights} {t : List ℤ} (R : Ready d w h odd weights t) where
  in_range_lem : (y x : ℕ) → y < h + 6 → x < w + 6 → seen (w + 6) t 0 y x ≤ largest d
  in_range_lem y x p q = seen_small w h (largest d) R.window.samples y x p q

  module _ {i : ℕ} (low : i < h) {p : Spots} (P : SpotsOf w h odd i p) where
    pub source : Source w p.u t
    source = record {
      room = omega (arith, P.u_is, R.window.room, rows);
      samples = samples_part _ _ (samples_widen 4095 (largest_most d) R.window.samples) (omega arith) (omega (arith, P.u_is, rows));
    }
      where
        rows : (i + 4) * (w + 6) ≤ (h + 6) * (w + 6)
        rows = mul-le-mul_right (w + 6) (omega arith)

    module _ (f : (sgr weights.set).0 ≡ 0 → ⊥) where
      abbrev eps0 : ℕ
      eps0 = (sgr weights.set).1

      all_a : Samples 4096 (six_a w h) (six_a w h + counted h odd * w) t
      all_a = area_samples (λ k j. five_six (λ b. a2_at d 2 eps0 (seen (w + 6) t 0) (2 * k + odd + 2) (j + b + 2))) (six_a w h) w (counted h odd) 4096 t (R.six f).a2
          (λ k j u v. six_small 256 _ (λ b l. a2_bounded d 2 eps0 (seen (w + 6) t 0) (2 * k + odd + 2) (j + b + 2)))

      all_b : Samples 16723920 (six_b w h) (six_b w h + counted h odd * w) t
      all_b = area_samples (λ k j. five_six (λ b. b2_at d 2 eps0 (seen (w + 6) t 0) (2 * k + odd + 2) (j + b + 2))) (six_b w h) w (counted h odd) 16723920 t (R.six f).b2
          (λ k j u v. six_small 1045245 _ (λ b l. b2_bounded d 2 eps0 (seen (w + 6) t 0) (2 * k + odd + 2) (j + b + 2) (omega arith) (λ y x p q. in_range_lem y x (omega (arith, R.window.parity)) (omega arith))))

      room : counted h odd * w ≤ (h + 2) * w
      room = mul-le-mul_right w (omega arith)

      pub sixes_even : (odd + i) % 2 ≡ 0 → Sixes (w + w) p.sa p.sb t
      sixes_even e = record {
        room_a = omega (arith, P.sa_is, R.window.room, room, rows);
        room_b = omega (arith, P.sb_is, R.window.room, room, rows);
        samples_a = samples_part _ _ all_a (omega (arith, P.sa_is)) (omega (arith, P.sa_is, rows));
        samples_b = samples_part _ _ all_b (omega (arith, P.sb_is)) (omega (arith, P.sb_is, rows));
      }
        where
          rows : ((i + 1 - odd) / 2 + 2) * w ≤ counted h odd * w
          rows = mul-le-mul_right w (omega (arith, R.window.parity))

      pub sixes_odd : (odd + i) % 2 ≡ 1 → Sixes w p.sa p.sb t
      sixes_odd e = record {
        room_a = omega (arith, P.sa_is, R.window.room, room, rows);
        room_b = omega (arith, P.sb_is, R.window.room, room, rows);
        samples_a = samples_part _ _ all_a (omega (arith, P.sa_is)) (omega (arith, P.sa_is, rows));
        samples_b = samples_part _ _ all_b (omega (arith, P.sb_is)) (omega (arith, P.sb_is, rows));
      }
        where
          rows : ((i + 1 - odd) / 2 + 1) * w ≤ counted h odd * w
          rows = mul-le-mul_right w (omega (arith, R.window.parity))

    module _ (f : (sgr weights.set).2 ≡ 0 → ⊥) where
      abbrev eps1 : ℕ
      eps1 = (sgr weights.set).3

      every_a : Samples 256 (cross_a w h) (cross_a w h + (h + 2) * (w + 2)) t
      every_a = area_samples (λ y j. a2_at d 1 eps1 (seen (w + 6) t 0) (y + 2) (j + 2)) (cross_a w h) (w + 2) (h + 2) 256 t (R.cross f).a2
          (λ y j u v. a2_bounded d 1 eps1 (seen (w + 6) t 0) (y + 2) (j + 2))

      every_b : Samples 1045245 (cross_b w h) (cross_b w h + (h + 2) * (w + 2)) t
      every_b = area_samples (λ y j. b2_at d 1 eps1 (seen (w + 6) t 0) (y + 2) (j + 2)) (cross_b w h) (w + 2) (h + 2) 1045245 t (R.cross f).b2
          (λ y j u v. b2_bounded d 1 eps1 (seen (w + 6) t 0) (y + 2) (j + 2) (omega arith) (λ y x p q. in_range_lem y x (omega arith) (omega arith)))

      pub crosses : Crosses (2 * (w + 2) + (w + 2)) p.a p.b t
      crosses = record {
        room_a = omega (arith, P.a_is, R.window.room, rows);
        room_b = omega (arith, P.b_is, R.window.room, rows);
        samples_a = samples_part _ _ every_a (omega (arith, P.a_is)) (omega (arith, P.a_is, rows));
        samples_b = samples_part _ _ every_b (omega (arith, P.b_is)) (omega (arith, P.b_is, rows));
      }
        where
          rows : (i + 3) * (w + 2) ≤ (h + 2) * (w + 2)
          rows = mul-le-mul_right (w + 2) (omega arith)
