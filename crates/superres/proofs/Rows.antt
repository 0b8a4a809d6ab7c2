-- One row of a block: the eight samples that a column reads lie within the row's part, and the three steps (edges, sums, rounding) leave
-- the row that `scaled` says.
use mathlib.Core.Path.{◌≡◌, refl, sym, ◌∙◌, ap, subst}
use mathlib.Core.List.{List}
use Prim.Native.Nat.{ℕ, ◌+◌, ◌-◌, ◌*◌, ◌/◌, ◌%◌, ◌≤◌, ◌<◌, min}
use native.Mathlib.Omega.{arith}
use native.Mathlib.Nat.{mul-le-mul_right, add-mul}
use lib.Dec.{leb, leb→le}
use lib.IntN.{ℤ, pos, nat_abs, ◌*ℤ◌}
use lib.ListN.{length, get_or}
use Rattle.laws.specs.Bounds.{Sized, sized_part}
use Rattle.laws.specs.Congruence.{ap2}
use Rattle.laws.specs.Index.{mul_small}
use Rattle.laws.specs.Lists.{all_below, below_at}
use Rattle.laws.specs.Runs.{stamp, stamp_at, stamp_same, stamp_length}
use Rattle.standard.specs.Arithmetic.{round2, clip_to, sum_ℤ}
use Rattle.standard.specs.UpscaleFilter.{up_tap, upscale_filter}
use Rattle.standard.proofs.Sums.{sum_ℤ_same}
use Rattle.superres.specs.Scaled.{place_at, phase_at, dot, scaled, Reach, Laid, Ready}
use Rattle.superres.proofs.Dot.{dot_small}

-- ---- places
pub place_up : (start step x y : ℕ) → x ≤ y → place_at start step x ≤ place_at start step y
place_up start step x y h = omega (arith, mul-le-mul_right step h)

place_near : (start step x m : ℕ) → step ≤ 16384 → m ≤ 1023 → place_at start step (x + m) ≤ place_at start step x + 1023
place_near start step x m p q = omega (arith, add-mul x m step, mul_small {y = m} {w = step} 1023 16384 q p)

-- ---- taps
pub tap_small : (f k : ℕ) → f < 64 → k < 8 → nat_abs (up_tap f k) ≤ 128
unfolding all_below up_tap upscale_filter
tap_small f k p q = leb→le _ 128 (below_at 8 (λ k. leb (nat_abs (up_tap f k)) 128) (below_at 64 (λ f. all_below 8 (λ k. leb (nat_abs (up_tap f k)) 128)) tt f p) k q)

pub taps_sized : {t : List ℤ} → Laid t → Sized 128 0 512 t
taps_sized l = record { size = λ i p q. subst (λ (z : ℤ). nat_abs z ≤ 128) (sym (l.tap i q)) (tap_small (i / 8) (i % 8) (omega arith) (omega arith)) }

tap_at : {t : List ℤ} → Laid t → (f k i : ℕ) → f < 64 → k < 8 → i ≡ f * 8 + k → get_or t i (pos 0) ≡ up_tap f k
tap_at l f k i p q e = l.tap i (omega arith) ∙ ap2 up_tap (omega arith) (omega arith)

module _ {start step x0 n q0 need : ℕ} {ps fs : List ℕ} (b : Ready start step x0 n q0 need ps fs) (steps : step ≤ 16384) where
  need_is : need ≡ place_at start step (x0 + (n - 1)) - q0 + 8
  need_is = b.needs ∙ ap (λ (m : ℕ). place_at start step m - q0 + 8) (omega (arith, b.some))

  -- a block reads between 8 and 1040 samples
  pub need_small : (8 ≤ need) × (need ≤ 1040)
  need_small = (omega (arith, need_is), omega (arith, need_is, b.from, b.most, place_near start step x0 (n - 1) steps (omega (arith, b.most))))

  pub within : (x : ℕ) → x < n → get_or ps x 0 + 8 ≤ need
  within x h = omega (arith, need_is, b.from, b.place x h, place_up start step (x0 + x) (x0 + (n - 1)) (omega arith))

  module _ {t : List ℤ} (l : Laid t) (last from : ℕ) (src r r' : List ℤ) (long : length r ≡ 1040)
      (edged : r' ≡ stamp (λ k. get_or src (from + min (q0 + k - 4) last) (pos 0)) 0 need r) where
    edge_at : (x k : ℕ) → x < n → k < 8 → get_or r' (get_or ps x 0 + k) (pos 0) ≡ get_or src (from + min (place_at start step (x0 + x) + k - 4) last) (pos 0)
    edge_at x k p q =
        stamp_at _ 0 need r r' (get_or ps x 0 + k) (get_or ps x 0 + k) (pos 0) edged (omega (arith, need_small.1)) (omega (arith, within x p)) (omega arith)
        ∙ ap (λ (c : ℕ). get_or src (from + min (c - 4) last) (pos 0)) (omega (arith, b.from, b.place x p, place_up start step x0 (x0 + x) (omega arith)))

    -- the part's samples are the row's
    part_sized : Sized 4095 from (from + last + 1) src → (k : ℕ) → k < need → nat_abs (get_or r' k (pos 0)) ≤ 4095
    part_sized z k h = subst (λ (v : ℤ). nat_abs v ≤ 4095) (sym (stamp_at _ 0 need r r' k k (pos 0) edged (omega (arith, need_small.1)) h (omega arith))) (z.size (from + min (q0 + k - 4) last) (omega arith) (omega arith))

    pub reaches : Sized 4095 from (from + last + 1) src → Reach n r' ps fs
    reaches z = record {
      many = b.many;
      many_rows = b.many_rows;
      place = λ x h. omega (arith, within x h, need_small.1, ap length edged ∙ stamp_length _ _ _ _);
      sized = λ x h. record { size = λ k p q. part_sized z k (omega (arith, within x h)) };
      tap_row = λ x h. omega (arith, b.tap_row x h);
    }

    dot_is : (x : ℕ) → x < n → dot r' (get_or ps x 0) t (get_or fs x 0)
        ≡ sum_ℤ 8 (λ k. up_tap (phase_at start step (x0 + x)) k *ℤ get_or src (from + min (place_at start step (x0 + x) + k - 4) last) (pos 0))
    unfolding dot
    dot_is x h = sum_ℤ_same 8 _ _ (λ k q. ap2 ◌*ℤ◌ (tap_at l (phase_at start step (x0 + x)) k (get_or fs x 0 + k) (omega arith) q (omega (arith, b.tap_row x h))) (edge_at x k h q))

    module _ (line line' : List ℤ) (room : length line ≡ 1024) (summed : line' ≡ stamp (λ x. dot r' (get_or ps x 0) t (get_or fs x 0)) 0 n line) where
      line_at : (x : ℕ) → x < n → get_or line' x (pos 0) ≡ dot r' (get_or ps x 0) t (get_or fs x 0)
      line_at x h = stamp_at _ 0 n line line' x x (pos 0) summed (omega (arith, b.most)) h (omega arith)

      pub sums_small : Sized 4095 from (from + last + 1) src → Sized 4193280 0 n line'
      sums_small z = record { size = λ x p h. subst (λ (v : ℤ). nat_abs v ≤ 4193280) (sym (line_at x h)) (dot_small ((reaches z).sized x h) (sized_part _ _ (taps_sized l) (omega arith) ((reaches z).tap_row x h))) }

      pub row_is : (top to : ℕ) (out out' : List ℤ) → out' ≡ stamp (λ x. pos (clip_to top (round2 7 (get_or line' x (pos 0))))) to n out
          → out' ≡ stamp (λ x. scaled top start step last (λ c. get_or src (from + c) (pos 0)) (x0 + x)) to n out
      unfolding scaled
      row_is top to out out' e = e ∙ stamp_same _ _ to n out (λ x h. ap (λ (z : ℤ). pos (clip_to top (round2 7 z))) (line_at x h ∙ dot_is x h))

-- ---- a block's tables, as `places` leaves them
pub ready : (start step x0 n : ℕ) (ps ps' fs fs' : List ℕ) → 1 ≤ n → n ≤ 1024 → n ≤ length ps → n ≤ length fs
    → ps' ≡ stamp (λ x. place_at start step (x0 + x) - place_at start step x0) 0 n ps → fs' ≡ stamp (λ x. phase_at start step (x0 + x) * 8) 0 n fs
    → Ready start step x0 n (place_at start step x0) (place_at start step (x0 + n - 1) - place_at start step x0 + 8) ps' fs'
ready start step x0 n ps ps' fs fs' some most a b p q = record {
  some = some;
  most = most;
  from = refl;
  needs = refl;
  many = omega (arith, ap length p ∙ stamp_length _ _ _ _);
  many_rows = omega (arith, ap length q ∙ stamp_length _ _ _ _);
  place = λ x h. stamp_at _ 0 n ps ps' x x 0 p (omega arith) h (omega arith);
  tap_row = λ x h. stamp_at _ 0 n fs fs' x x 0 q (omega arith) h (omega arith);
}

-- ---- a call's taps, as `lay` leaves them
pub laid : (t t' : List ℤ) → 512 ≤ length t → t' ≡ stamp (λ i. up_tap (i / 8) (i % 8)) 0 512 t → Laid t'
laid t t' h e = record { long = omega (arith, ap length e ∙ stamp_length _ _ _ _); tap = λ i p. stamp_at _ 0 512 t t' i i (pos 0) e h p (omega arith) }
