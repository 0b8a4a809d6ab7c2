-- Every row that a stripe reads holds samples: its own rows by way of the copy, the rows above and below it by way of the edge rows' parts.
use mathlib.Core.Path.{◌≡◌, sym, ◌∙◌, ap, subst}
use mathlib.Core.Bool.{Bool, true, false, cond}
use mathlib.Core.List.{List, []}
use Prim.Native.Nat.{ℕ, suc, ◌+◌, ◌-◌, ◌*◌, ◌/◌, ◌%◌, ◌^◌, ◌≤◌, ◌<◌, min}
use native.Mathlib.Omega.{arith}
use native.Mathlib.Nat.{add-mul, mul_assoc, mul_comm, mul-le-mul}
use borrow.Author.Tests.{lt-ltb}
use lib.Dec.{ltb}
use lib.IntN.{ℤ, pos, nat_abs}
use lib.Signed.{◌≤ℤ◌}
use lib.ListN.{length, get_or, take, drop, length-take, length-drop}
use lib.Seq.{get_or-drop}
use Rattle.laws.specs.Bounds.{Samples, samples_lent, samples_part, samples_same}
use Rattle.laws.specs.Congruence.{ap2}
use Rattle.laws.specs.Index.{part_at, cell_of, of_lt, row_le}
use Rattle.laws.specs.Tests.{Test, test}
use Rattle.standard.specs.declared.Frame.{Frame}
use Rattle.standard.specs.Depths.{depth_of, largest}
use Rattle.standard.specs.Stripes.{stripe_start, stripe_stop, stripes}
use Rattle.standard.specs.Planes.{above, below}
use Rattle.standard.specs.Refusals.{no1, no15, plane_height, plane_width, sub_y_of}
use Rattle.standard.specs.Calls.{own_rows}
use Rattle.standard.proofs.Stripes.{Halved, full, half, next, stripe_exists}
use Rattle.frames.proofs.Legal.{halved}
use Rattle.units.proofs.Depths.{bits_of}
use Rattle.units.proofs.Ranges.{samples_of}
use Rattle.edges.proofs.Laws.{boundary_room, few_stripes}
use Rattle.fetch.specs.Source.{row_of, over_row, under_row, inside_row, source_row, stripe_source}
use Rattle.fetch.proofs.Sources.{Copied, stripe_reach}
use Rattle.rectangle.specs.View.{Fetchable}
use Rattle.stripe_tests.proofs.Laws.{legal, rows_fit, rows_of}
use Rattle.stripe_tests.proofs.Passed.{StripePassed}

-- ---- a part that holds samples, as places of the whole
pub of_part : {m : ℕ} (a n : ℕ) (s : List ℤ) → Samples m 0 n (take n (drop a s)) → Samples m a (a + n) s
of_part {m = m} a n s p = record {
  low = λ k u v. subst (λ (z : ℤ). pos 0 ≤ℤ z) (same k u v) (p.low (k - a) (omega arith) (omega arith));
  size = λ k u v. subst (λ (z : ℤ). nat_abs z ≤ m) (same k u v) (p.size (k - a) (omega arith) (omega arith));
}
  where
    same : (k : ℕ) → a ≤ k → k < a + n → get_or (take n (drop a s)) (k - a) (pos 0) ≡ get_or s k (pos 0)
    same k u v = part_at a n s (k - a) (pos 0) (omega arith) ∙ ap (λ (i : ℕ). get_or s i (pos 0)) (omega arith)

-- a run that passes 15, at its own length n
pub in_range_lem : (depth n : ℕ) (s : List ℤ) → no1 depth ≡ false → no15 depth s ≡ false → n ≤ length s → Samples (largest (depth_of depth)) 0 n s
in_range_lem depth n s d e l = samples_part 0 n (subst (λ (m : ℕ). Samples m 0 (length s) s) (ap (λ (b : ℕ). 2 ^ b - 1) (sym (bits_of depth d))) (samples_of depth s e)) (omega arith) l

-- ---- places of the edge rows
row_place : (t j w : ℕ) → (4 * t + j) * w ≡ 4 * w * t + j * w
row_place t j w = add-mul (4 * t) j w ∙ ap (λ (k : ℕ). k + j * w) (mul_assoc 4 t w ∙ ap (λ (k : ℕ). 4 * k) (mul_comm t w) ∙ sym (mul_assoc 4 w t))

part_length : (a n : ℕ) (s : List ℤ) → a + n ≤ length s → n ≤ length (take n (drop a s))
part_length a n s h = omega (arith, length-take n (drop a s), length-drop a s)

-- row t of the first two rows of a boundary, and of its last two
first_rows : (t j w : ℕ) → j ≤ 1 → (4 * w * t ≤ (4 * t + j) * w) × ((4 * t + j) * w + w ≤ 4 * w * t + 2 * w)
first_rows t j w h = (omega (arith, row_place t j w), omega (arith, row_place t j w, mul-le-mul {n₁ = j} {m₁ = w} {n₂ = 1} {m₂ = w} h (omega arith)))

last_rows : (t j w : ℕ) → j ≤ 1 → (4 * w * t + 2 * w ≤ (4 * t + 2 + j) * w) × ((4 * t + 2 + j) * w + w ≤ 4 * w * t + 2 * w + 2 * w)
last_rows t j w h =
    let e : (4 * t + 2 + j) * w ≡ 4 * w * t + 2 * w + j * w = add-mul (4 * t + 2) j w ∙ ap (λ (k : ℕ). k + j * w) (row_place t 2 w) in
    (omega (arith, e), omega (arith, e, mul-le-mul {n₁ = j} {m₁ = w} {n₂ = 1} {m₂ = w} h (omega arith)))

later : {sy : ℕ} → Halved sy → (s : ℕ) → 0 < stripe_start sy s → 1 ≤ s
unfolding stripe_start
later full s p = omega arith
later half s p = omega arith

-- ---- one stripe whose call no test refuses, its rows in the copy C
module _ {f : Frame} {s : ℕ} {table E P : List ℤ} {scratch room : ℕ} (p : StripePassed f s table E P scratch room) where
  abbrev m : ℕ
  m = largest (depth_of f.depth)

  abbrev pub start : ℕ
  start = stripe_start (sub_y_of f) s

  abbrev pub high : ℕ
  high = min (plane_height f) (stripe_stop (sub_y_of f) s) - stripe_start (sub_y_of f) s

  pub hv : Halved (sub_y_of f)
  hv = halved (sub_y_of f) (legal p.numbered).own_y

  pub own_samples : Samples m (start * plane_width f) (start * plane_width f + high * plane_width f) P
  unfolding own_rows
  own_samples = let r = rows_of p.numbered s p.there in
      of_part (start * plane_width f) (high * plane_width f) P (in_range_lem f.depth (high * plane_width f) (take (high * plane_width f) (drop (start * plane_width f) P)) p.numbered.depth p.own
      (part_length (start * plane_width f) (high * plane_width f) P (omega (arith, rows_fit (plane_height f) (plane_width f) start (min (plane_height f) (stripe_stop (sub_y_of f) s)) r.ordered r.inside, p.long))))

  over_samples : 1 ≤ s → Samples m (4 * plane_width f * (s - 1)) (4 * plane_width f * (s - 1) + 2 * plane_width f) E
  unfolding above
  over_samples h = of_part (4 * plane_width f * (s - 1)) (2 * plane_width f) E (in_range_lem f.depth (2 * plane_width f) (take (2 * plane_width f) (drop (4 * plane_width f * (s - 1)) E)) p.numbered.depth
      (sym (ap2 (λ (a b : Bool). no15 f.depth (cond a (cond b (take (2 * plane_width f) (drop (4 * plane_width f * (s - 1)) E)) []) [])) (lt-ltb 0 s (omega arith)) (lt-ltb s (stripes (sub_y_of f) (plane_height f)) p.there)) ∙ p.over)
      (part_length (4 * plane_width f * (s - 1)) (2 * plane_width f) E (omega (arith, p.edges, boundary_room (plane_width f) (s - 1) (stripes (sub_y_of f) (plane_height f)) (omega (arith, p.there))))))

  under_samples : suc s < stripes (sub_y_of f) (plane_height f) → Samples m (4 * plane_width f * s + 2 * plane_width f) (4 * plane_width f * s + 2 * plane_width f + 2 * plane_width f) E
  unfolding below
  under_samples h = of_part (4 * plane_width f * s + 2 * plane_width f) (2 * plane_width f) E (in_range_lem f.depth (2 * plane_width f) (take (2 * plane_width f) (drop (4 * plane_width f * s + 2 * plane_width f) E)) p.numbered.depth
      (sym (ap (λ (a : Bool). no15 f.depth (cond a (take (2 * plane_width f) (drop (4 * plane_width f * s + 2 * plane_width f) E)) [])) (lt-ltb (suc s) (stripes (sub_y_of f) (plane_height f)) h)) ∙ p.under)
      (part_length (4 * plane_width f * s + 2 * plane_width f) (2 * plane_width f) E (omega (arith, p.edges, boundary_room (plane_width f) s (stripes (sub_y_of f) (plane_height f)) (omega (arith, h))))))

  module _ (C : List ℤ) (c : Copied P C (plane_width f) start high) where
    copy_samples : Samples m 0 (high * plane_width f) C
    copy_samples = samples_same C moved (λ k u v. there k v)
      where
        moved : Samples m 0 (high * plane_width f) (drop (start * plane_width f) P)
        moved = record {
          low = λ k u v. subst (λ (z : ℤ). pos 0 ≤ℤ z) (sym (get_or-drop (start * plane_width f) P k (pos 0))) (own_samples.low (start * plane_width f + k) (omega arith) (omega arith));
          size = λ k u v. subst (λ (z : ℤ). nat_abs z ≤ m) (sym (get_or-drop (start * plane_width f) P k (pos 0))) (own_samples.size (start * plane_width f + k) (omega arith) (omega arith));
        }

        there : (k : ℕ) → k < high * plane_width f → get_or C k (pos 0) ≡ get_or (drop (start * plane_width f) P) k (pos 0)
        there k v = let r : (k / plane_width f < high) × (k % plane_width f < plane_width f) = of_lt v in
            ap (λ (i : ℕ). get_or C i (pos 0)) (cell_of k (plane_width f)) ∙ c.same (k / plane_width f) (k % plane_width f) r.0 r.1
            ∙ ap (λ (i : ℕ). get_or P i (pos 0)) (omega (arith, add-mul start (k / plane_width f) (plane_width f), cell_of k (plane_width f)))
            ∙ sym (get_or-drop (start * plane_width f) P k (pos 0))

    row_samples : (y : ℕ) → y < plane_height f → Samples m 0 (plane_width f) (source_row C E (plane_width f) (stripe_source (sub_y_of f) s) y)
    unfolding source_row row_of
    row_samples y l = go (ltb y start) (test y start) (ltb y (stripe_stop (sub_y_of f) s)) (test y (stripe_stop (sub_y_of f) s))
      where
        go : (a : Bool) → Test y start a → (b : Bool) → Test y (stripe_stop (sub_y_of f) s) b →
            Samples m 0 (plane_width f) (cond a (row_of E (plane_width f) (over_row (stripe_source (sub_y_of f) s) y)) (cond b (row_of C (plane_width f) (inside_row (stripe_source (sub_y_of f) s) y)) (row_of E (plane_width f) (under_row (stripe_source (sub_y_of f) s) y))))
        go true (Test.below q) b t = let o = first_rows (s - 1) (y + 2 - start) (plane_width f) (omega arith) in
            samples_lent ((4 * (s - 1) + (y + 2 - start)) * plane_width f) (plane_width f) (over_samples (later hv s (omega arith))) o.0 o.1
        go false (Test.above q) true (Test.below o) =
            samples_lent (inside_row (stripe_source (sub_y_of f) s) y * plane_width f) (plane_width f) copy_samples (omega arith) (row_le {y = inside_row (stripe_source (sub_y_of f) s) y} {h = high} (plane_width f) (omega arith))
        go false (Test.above q) false (Test.above o) = let u = last_rows s (min (y - stripe_stop (sub_y_of f) s) 1) (plane_width f) (omega arith) in
            samples_lent ((4 * s + 2 + min (y - stripe_stop (sub_y_of f) s) 1) * plane_width f) (plane_width f)
            (under_samples ((stripe_exists hv (plane_height f) (suc s) (legal p.numbered).rows).1 (omega (arith, next hv s)))) u.0 u.1

    pub stripe_fetched : Fetchable m C E (plane_width f) (plane_height f) (stripe_source (sub_y_of f) s)
    stripe_fetched = let few = few_stripes hv (plane_height f) (legal p.numbered).rows_low in record {
      reach = stripe_reach hv P C E (plane_width f) (plane_height f) s c p.edges p.there (legal p.numbered).rows;
      legal = row_samples;
      over_low = omega (arith, few, p.there);
      inside_low = omega arith;
      under_low = omega (arith, few, p.there);
    }
