-- The five steps of a row of the box filter, over plain lists: what each step's reads are, and what the last list holds.
use mathlib.Core.Path.{◌≡◌, refl, sym, ◌∙◌, ap, subst}
use mathlib.Core.List.{List}
use Prim.Native.Nat.{ℕ, ◌+◌, ◌-◌, ◌*◌, ◌≤◌, ◌<◌}
use native.Mathlib.Omega.{arith}
use native.Mathlib.Nat.{mul-le-mul_right, mul-le-mul_left, le_trans}
use lib.IntN.{ℤ, pos}
use lib.ListN.{length}
use Rattle.laws.specs.Congruence.{ap2, ap3}
use Rattle.laws.specs.Runs.{stamp, stamp_length}
use Rattle.laws.specs.Bounds.{Samples, samples_part}
use Rattle.standard.specs.Arithmetic.{round_ℕ}
use Rattle.standard.specs.Depths.{largest}
use Rattle.standard.specs.SelfGuided.{area, one_over, box_sum, spread, a2_of, a2_at, b2_at}
use Rattle.standard.proofs.Sums.{sum_small}
use Rattle.boxes.specs.declared.scale.Scale.{Scale}
use Rattle.boxes.specs.Reads.{sample_at, seen, sums, squares}
use Rattle.boxes.specs.Scales.{z_of}
use Rattle.boxes.specs.Tables.{Shares, Weighed}
use Rattle.boxes.specs.BoxRows.{Run, Kept, Setting, BoxRow}
use Rattle.boxes.proofs.SumLaws.{sums_small, squares_small}
use Rattle.boxes.proofs.ScaleLaws.{largest_most, at_most_25, z_most, a2_cut, weigh}
use Rattle.boxes.proofs.RunLaws.{run_new, run_same, run_kept, run_at, run_samples, run_shares, run_weighed, kept_before, kept_after, kept_on}
use Rattle.boxes.proofs.BoxLaws.{sums_across, box_sum_lem, box_squares_lem}

module _ (r : ℕ) (z : Scale) (from line a b w : ℕ) (s : List ℤ) (P : Setting r z from line a b w s) where
  abbrev N : ℕ
  N = 2 * r + 1

  abbrev most : ℕ
  most = largest z.depth

  abbrev wide : ℕ
  wide = w + 2 + 2 * r

  abbrev va : ℕ
  va = line + (w + 6)

  abbrev zb : ℕ
  zb = line + (w + 6) + (w + 6)

  abbrev zs : ℕ
  zs = line + (w + 6) + (w + 6) + (w + 2)

  -- the sums and the values of the definition
  abbrev down : ℕ → ℕ
  down j = sums N s (from + j) (w + 6)

  abbrev down_squares : ℕ → ℕ
  down_squares j = squares N s (from + j) (w + 6)

  abbrev box : ℕ → ℕ
  box j = box_sum r (seen (w + 6) s from) r (j + r)

  abbrev box_squares : ℕ → ℕ
  box_squares j = box_sum r (λ y x. seen (w + 6) s from y x * seen (w + 6) s from y x) r (j + r)

  at_most_5 : N ≤ 5
  at_most_5 = omega (arith, P.radius)

  down_small : (j : ℕ) → j < wide → down j ≤ N * most
  down_small j h = sums_small (samples_part (from + j) (from + 2 * r * (w + 6) + wide) P.samples (omega arith) (omega arith)) (2 * r) (w + 6) (omega arith)

  squares_down : (j : ℕ) → j < wide → down_squares j ≤ N * (most * most)
  squares_down j h = squares_small (samples_part (from + j) (from + 2 * r * (w + 6) + wide) P.samples (omega arith) (omega arith)) (2 * r) (w + 6) (omega arith)

  box_small : (j : ℕ) → j < w + 2 → box j ≤ N * (N * most)
  box_small j h = omega (arith, box_sum_lem r s from (w + 6) j, sum_small N (N * most) (λ k. down (j + k)) (λ k p. down_small (j + k) (omega arith)))

  -- the list that has the sums and not yet the squares
  abbrev mid : List ℤ
  mid = stamp (λ j. pos (sums N s (from + j) (w + 6))) line wide s

  long_mid : length mid ≡ length s
  long_mid = stamp_length _ _ _ _

  vb_mid : Run down line wide mid
  vb_mid = run_new down line wide s refl (omega (arith, P.lines, P.order, P.room, P.radius))

  module _ (s1 : List ℤ) (e1 : s1 ≡ stamp (λ j. pos (squares N s (from + j) (w + 6))) va wide mid) where
    pub long1 : length s1 ≡ length s
    long1 = ap length e1 ∙ stamp_length _ _ _ _ ∙ long_mid

    below1 : Kept 0 line s s1
    below1 = kept_on (kept_before _ line wide s refl 0 line (omega arith)) (kept_before _ va wide mid e1 0 line (omega arith))

    vb1 : Run down line wide s1
    vb1 = run_kept vb_mid (kept_before _ va wide mid e1 line va (omega arith)) (omega arith) (omega (arith, P.radius))

    va1 : Run down_squares va wide s1
    va1 = run_new down_squares va wide mid e1 (omega (arith, long_mid, P.lines, P.order, P.room, P.radius))

    pub second_reads : Samples 83845125 line (line + 2 * r * 1 + (w + 2)) s1
    second_reads = samples_part line (line + 2 * r * 1 + (w + 2)) (run_samples 83845125 vb1 (λ j h. small j h)) (omega arith) (omega arith)
      where
        small : (j : ℕ) → j < wide → down j ≤ 83845125
        small j h = omega (arith, down_small j h, mul-le-mul_right most at_most_5, largest_most z.depth)

    module _ (s2 : List ℤ) (e2 : s2 ≡ stamp (λ j. pos (sums N s1 (line + j) 1)) zb (w + 2) s1) where
      pub long2 : length s2 ≡ length s
      long2 = ap length e2 ∙ stamp_length _ _ _ _ ∙ long1

      below2 : Kept 0 line s s2
      below2 = kept_on below1 (kept_before _ zb (w + 2) s1 e2 0 line (omega arith))

      va2 : Run down_squares va wide s2
      va2 = run_kept va1 (kept_before _ zb (w + 2) s1 e2 va zb (omega arith)) (omega arith) (omega (arith, P.radius))

      zb2 : Run box zb (w + 2) s2
      zb2 = run_same box (run_new _ zb (w + 2) s1 e2 (omega (arith, long1, P.lines, P.order, P.room)))
          (λ j h. sums_across (2 * r) down vb1 j (omega arith) ∙ box_sum_lem r s from (w + 6) j)

      pub third_squares : Samples (5 * (most * most)) va (va + 2 * r + (w + 2)) s2
      third_squares = samples_part va (va + 2 * r + (w + 2)) (run_samples (5 * (most * most)) va2 (λ j h. le_trans (squares_down j h) (mul-le-mul_right (most * most) at_most_5))) (omega arith) (omega arith)

      pub third_sums : Samples (25 * most) zb (zb + (w + 2)) s2
      third_sums = run_samples (25 * most) zb2 (λ j h. at_most_25 N most at_most_5 (le_trans (box_small j h) (mul-le-mul_left N (mul-le-mul_right most at_most_5))))

      module _ (s3 : List ℤ) (e3 : s3 ≡ stamp (λ j. pos (z_of z (area r) (sums N s2 (va + j) 1) (sample_at s2 (zb + j)))) zs (w + 2) s2) where
        pub long3 : length s3 ≡ length s
        long3 = ap length e3 ∙ stamp_length _ _ _ _ ∙ long2

        below3 : Kept 0 line s s3
        below3 = kept_on below2 (kept_before _ zs (w + 2) s2 e3 0 line (omega arith))

        zb3 : Run box zb (w + 2) s3
        zb3 = run_kept zb2 (kept_before _ zs (w + 2) s2 e3 zb zs (omega arith)) (omega arith) (omega arith)

        zs3 : Run (λ j. z_of z (area r) (box_squares j) (box j)) zs (w + 2) s3
        zs3 = run_same _ (run_new _ zs (w + 2) s2 e3 (omega (arith, long2, P.lines, P.order, P.room)))
            (λ j h. ap2 (λ x y. z_of z (area r) x y) (sums_across (2 * r) down_squares va2 j (omega arith) ∙ box_squares_lem r s from (w + 6) j) (run_at zb2 j h))

        above3 : (lo hi : ℕ) → line + (4 * w + 16) ≤ lo → Kept lo hi s s3
        above3 lo hi h =
            kept_on (kept_on (kept_after _ line wide s refl lo hi (omega (arith, P.radius))) (kept_after _ va wide mid e1 lo hi (omega (arith, P.radius))))
            (kept_on (kept_after _ zb (w + 2) s1 e2 lo hi (omega arith)) (kept_after _ zs (w + 2) s2 e3 lo hi (omega arith)))

        pub fourth_reads : Samples 255 zs (zs + (w + 2)) s3
        fourth_reads = run_samples 255 zs3 (λ j h. z_most z (area r) (box_squares j) (box j))

        module _ (s4 : List ℤ) (e4 : s4 ≡ stamp (λ j. pos (a2_of (sample_at s3 (zs + j)))) a (w + 2) s3) where
          pub long4 : length s4 ≡ length s
          long4 = ap length e4 ∙ stamp_length _ _ _ _ ∙ long3

          below4 : Kept 0 line s s4
          below4 = kept_on below3 (kept_before _ a (w + 2) s3 e4 0 line (omega (arith, P.lines)))

          zb4 : Run box zb (w + 2) s4
          zb4 = run_kept zb3 (kept_before _ a (w + 2) s3 e4 zb a (omega arith)) (omega arith) (omega (arith, P.lines))

          strength : (j : ℕ) → a2_of (z_of z (area r) (box_squares j) (box j)) ≡ a2_at z.depth r z.eps (seen (w + 6) s from) r (j + r)
          unfolding z_of a2_at
          strength j = a2_cut _ ∙ ap (λ (m : ℕ). a2_of (round_ℕ 20 (spread z.depth (area r) (box_squares j) (box j) * m))) P.scaled.s_is

          shares4 : Run (λ j. a2_of (z_of z (area r) (box_squares j) (box j))) a (w + 2) s4
          shares4 = run_same _ (run_new _ a (w + 2) s3 e4 (omega (arith, long3, P.order, P.room))) (λ j h. ap a2_of (run_at zs3 j h))

          a4 : Run (λ j. a2_at z.depth r z.eps (seen (w + 6) s from) r (j + r)) a (w + 2) s4
          a4 = run_same _ shares4 (λ j h. strength j)

          pub fifth_shares : Shares a (a + (w + 2)) s4
          fifth_shares = run_shares (λ j. z_of z (area r) (box_squares j) (box j)) shares4

          module _ (o : ℕ) (o_is : o ≡ one_over (area r)) where
            pub fifth_sums : Weighed o zb (zb + (w + 2)) s4
            fifth_sums = run_weighed o zb4 (λ j h. small j h) (λ j h. subst (λ (n : ℕ). box j * n ≤ 16789500) (sym o_is) (weigh r z.depth (box j) P.radius (box_small j h)))
              where
                small : (j : ℕ) → j < w + 2 → box j ≤ 102375
                small j h = omega (arith, largest_most z.depth, at_most_25 N most at_most_5 (le_trans (box_small j h) (mul-le-mul_left N (mul-le-mul_right most at_most_5))))

            module _ (s5 : List ℤ) (e5 : s5 ≡ stamp (λ j. pos (round_ℕ 12 ((256 - sample_at s4 (a + j)) * sample_at s4 (zb + j) * o))) b (w + 2) s4) where
              b5 : Run (λ j. b2_at z.depth r z.eps (seen (w + 6) s from) r (j + r)) b (w + 2) s5
              unfolding b2_at
              b5 = run_same _ (run_new _ b (w + 2) s4 e5 (omega (arith, long4, P.room)))
                  (λ j h. ap3 (λ x y n. round_ℕ 12 ((256 - x) * y * n)) (run_at a4 j h) (run_at zb4 j h) o_is)

              pub boxed : BoxRow r z from line a b w s s5
              boxed = record {
                long = ap length e5 ∙ stamp_length _ _ _ _ ∙ long4;
                below = kept_on below4 (kept_before _ b (w + 2) s4 e5 0 line (omega (arith, P.lines, P.order)));
                middle = kept_on (kept_on (above3 _ a (omega arith)) (kept_before _ a (w + 2) s3 e4 _ a (omega arith))) (kept_before _ b (w + 2) s4 e5 _ a (omega (arith, P.order)));
                between = kept_on (kept_on (above3 _ b (omega (arith, P.lines))) (kept_after _ a (w + 2) s3 e4 _ b (omega arith))) (kept_before _ b (w + 2) s4 e5 _ b (omega arith));
                above = kept_on (kept_on (above3 _ (length s) (omega (arith, P.lines, P.order))) (kept_after _ a (w + 2) s3 e4 _ (length s) (omega (arith, P.order)))) (kept_after _ b (w + 2) s4 e5 _ (length s) (omega arith));
                a2 = run_kept a4 (kept_before _ b (w + 2) s4 e5 a b (omega arith)) (omega arith) P.order;
                b2 = b5;
              }
