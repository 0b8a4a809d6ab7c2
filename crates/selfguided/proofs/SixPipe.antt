-- The three steps of a row of pass 0, over plain lists.
use mathlib.Core.Path.{◌≡◌, ◌∙◌, ap}
use mathlib.Core.List.{List}
use Prim.Native.Nat.{ℕ, ◌+◌, ◌*◌, ◌≤◌, ◌<◌}
use native.Mathlib.Omega.{arith}
use native.Mathlib.Nat.{mul-le-mul_right}
use lib.IntN.{ℤ, pos}
use lib.ListN.{length}
use Rattle.laws.specs.Runs.{stamp, stamp_length}
use Rattle.laws.specs.Bounds.{Samples, samples_part}
use Rattle.standard.specs.Depths.{largest}
use Rattle.standard.specs.SelfGuided.{a2_at, b2_at}
use Rattle.boxes.specs.declared.scale.Scale.{Scale}
use Rattle.boxes.specs.Reads.{sample_at, seen}
use Rattle.boxes.specs.BoxRows.{Run, Kept, Setting, BoxRow}
use Rattle.boxes.proofs.RunLaws.{run_new, run_same, run_kept, run_at, run_samples, kept_before, kept_after, kept_on, kept_part}
use Rattle.boxes.proofs.BoxLaws.{a2_bounded, b2_bounded}
use Rattle.selfguided.specs.Weighing.{five_six}
use Rattle.selfguided.specs.Passes.{SixSetting, SixRow}
use Rattle.selfguided.proofs.WeighLaws.{six_same}

module _ {z : Scale} {from line a b w : ℕ} {s : List ℤ} (P : SixSetting z from line a b w s) where
  abbrev la : ℕ
  la = line + (4 * w + 16)

  abbrev lb : ℕ
  lb = line + (4 * w + 16) + (w + 2)

  pub setting : Setting 2 z from line la lb w s
  setting = record {
    radius = omega arith;
    before = omega (arith, P.before);
    lines = omega arith;
    order = omega arith;
    room = omega (arith, P.lines_end, P.order, P.room);
    samples = samples_part _ _ P.samples (omega arith) (omega arith);
    scaled = P.scaled;
  }

  seen_range : (i j : ℕ) → i ≤ 4 → j < w + 6 → seen (w + 6) s from i j ≤ largest z.depth
  unfolding seen
  seen_range i j p q = P.samples.size (from + i * (w + 6) + j) (omega arith) (omega (arith, mul-le-mul_right (w + 6) p))

  module _ {s1 : List ℤ} (e1 : BoxRow 2 z from line la lb w s s1) where
    pub second_reads : Samples 1045245 la (la + 2 + w) s1
    second_reads = samples_part la (la + 2 + w) (run_samples 1045245 e1.a2 (λ j h. omega (arith, a2_bounded z.depth 2 z.eps (seen (w + 6) s from) 2 (j + 2)))) (omega arith) (omega arith)

    module _ {s2 : List ℤ} (e2 : s2 ≡ stamp (λ j. pos (five_six (λ k. sample_at s1 (la + j + k)))) a w s1) where
      pub long2 : length s2 ≡ length s
      long2 = ap length e2 ∙ stamp_length _ _ _ _ ∙ e1.long

      b2_kept : Run (λ j. b2_at z.depth 2 z.eps (seen (w + 6) s from) 2 (j + 2)) lb (w + 2) s2
      b2_kept = run_kept e1.b2 (kept_before _ a w s1 e2 lb a (omega arith)) (omega arith) (omega (arith, P.lines_end))

      pub third_reads : Samples 1045245 lb (lb + 2 + w) s2
      third_reads = samples_part lb (lb + 2 + w) (run_samples 1045245 b2_kept (λ j h. b2_bounded z.depth 2 z.eps (seen (w + 6) s from) 2 (j + 2) (omega arith) (λ y x p q. seen_range y x p (omega arith)))) (omega arith) (omega arith)

      sums_a : Run (λ j. five_six (λ i. a2_at z.depth 2 z.eps (seen (w + 6) s from) 2 (j + i + 2))) a w s2
      sums_a = run_same _ (run_new _ a w s1 e2 (omega (arith, e1.long, P.order, P.room))) (λ j h. six_same _ _ (λ k l. ap (sample_at s1) (index j k) ∙ run_at e1.a2 (j + k) (omega arith)))
        where
          index : (j k : ℕ) → la + j + k ≡ la + (j + k)
          index j k = omega arith

      module _ {s3 : List ℤ} (e3 : s3 ≡ stamp (λ j. pos (five_six (λ k. sample_at s2 (lb + j + k)))) b w s2) where
        sums_b : Run (λ j. five_six (λ i. b2_at z.depth 2 z.eps (seen (w + 6) s from) 2 (j + i + 2))) b w s3
        sums_b = run_same _ (run_new _ b w s2 e3 (omega (arith, long2, P.room))) (λ j h. six_same _ _ (λ k l. ap (sample_at s2) (index j k) ∙ run_at b2_kept (j + k) (omega arith)))
          where
            index : (j k : ℕ) → lb + j + k ≡ lb + (j + k)
            index j k = omega arith

        pub sixed : SixRow z from line a b w s s3
        sixed = record {
          long = ap length e3 ∙ stamp_length _ _ _ _ ∙ long2;
          below = kept_on (kept_on e1.below (kept_before _ a w s1 e2 0 line (omega (arith, P.lines_end)))) (kept_before _ b w s2 e3 0 line (omega (arith, P.lines_end, P.order)));
          middle = kept_on (kept_on above (kept_before _ a w s1 e2 _ a (omega arith))) (kept_before _ b w s2 e3 _ a (omega (arith, P.order)));
          between = kept_on (kept_on beyond (kept_after _ a w s1 e2 _ b (omega arith))) (kept_before _ b w s2 e3 _ b (omega arith));
          a2 = run_kept sums_a (kept_before _ b w s2 e3 a b (omega arith)) (omega arith) P.order;
          b2 = sums_b;
        }
          where
            above : Kept (lb + (w + 2)) a s s1
            above = kept_part _ _ e1.above (omega arith) (omega (arith, P.order, P.room))

            beyond : Kept (a + w) b s s1
            beyond = kept_part _ _ e1.above (omega (arith, P.lines_end)) (omega (arith, P.room))
