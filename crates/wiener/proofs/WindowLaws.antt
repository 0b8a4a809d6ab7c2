-- Both passes over a window, by plain lists: s1 holds the middle values. They are small, and the vertical pass over them gives the standard's sample.
use mathlib.Core.Path.{◌≡◌, refl, sym, ◌∙◌, ap, subst}
use mathlib.Core.List.{List}
use Prim.Native.Nat.{ℕ, ◌+◌, ◌*◌, ◌/◌, ◌%◌, ◌<◌, ◌≤◌}
use native.Mathlib.Omega.{arith}
use native.Mathlib.Nat.{add-mul}
use lib.IntN.{ℤ, pos, nat_abs, ◌+ℤ◌, ◌-ℤ◌, ◌*ℤ◌}
use lib.ListN.{length, get_or}
use lib.Signed.{mag}
use Rattle.laws.specs.Index.{cell_of, of_lt}
use Rattle.laws.specs.Integers.{diff2, differences-out, difference-arith}
use Rattle.laws.specs.Rows.{rows, rows_length, rows_same, area_at}
use Rattle.standard.specs.declared.Depth.{Depth}
use Rattle.standard.specs.declared.Taps.{Taps}
use Rattle.standard.specs.Arithmetic.{round2, clip_to}
use Rattle.standard.specs.Depths.{r0, r1, largest}
use Rattle.standard.specs.Wiener.{Grid, tap, clip_mid, across, wiener}
use Rattle.standard.proofs.Sums.{sum_ℤ_same}
use Rattle.wiener.specs.Passes.{Halves, bias, biased, unbiased, across_at, down_of, down_at}
use Rattle.wiener.proofs.PassLaws.{biased_half}

-- the vertical pass over the horizontal one is the filter
pub wiener_is : (d : Depth) (t : Taps) (w : Grid) → wiener d t w ≡ down_of d t (across d t w)
unfolding wiener down_of
wiener_is d t w = refl

down_same : (d : Depth) (t : Taps) (f g : ℕ → ℤ) → ((k : ℕ) → k < 7 → f k ≡ g k) → down_of d t f ≡ down_of d t g
unfolding down_of
down_same d t f g h = ap (λ z. clip_to (largest d) (round2 (r1 d) z)) (sum_ℤ_same 7 _ _ (λ k p. ap (λ z. tap t.v0 t.v1 t.v2 k *ℤ z) (h k p)))

-- the horizontal pass reads its own row
pub across_same : (d : Depth) (t : Taps) (v w : Grid) (i k : ℕ) → ((j : ℕ) → j < 7 → v i j ≡ w k j) → across d t v i ≡ across d t w k
unfolding across
across_same d t v w i k h = ap (λ z. clip_mid d (round2 (r0 d) z)) (sum_ℤ_same 7 _ _ (λ j p. ap (λ n. tap t.h0 t.h1 t.h2 j *ℤ pos n) (h j p)))

off_on : (z b : ℤ) → (z +ℤ b) -ℤ b ≡ z
off_on = diff2 _ (λ a b c d. simp differences-out (omega difference-arith))

bias_off : (d : Depth) (z : ℤ) → unbiased d (biased d z) ≡ z
unfolding biased unbiased
bias_off d z = off_on z (bias d)

across_half : (d : Depth) (t : Taps) (w : Grid) (i : ℕ) → mag (biased d (across d t w i)) < 16384
unfolding across
across_half d t w i = biased_half d _

-- ---- any source P, by row and column: s1 holds the middle values of its h + 6 rows
module _ (d : Depth) (t : Taps) (P : Grid) (s0 s1 : List ℤ) (w h : ℕ)
    (e : s1 ≡ rows (λ i x. biased d (across d t (λ _ b. P i (x + b)) 0)) 0 w w (h + 6) s0) (long : (h + 6) * w ≤ length s0) where
  middle_at : (i x : ℕ) → i < h + 6 → x < w → get_or s1 (i * w + x) (pos 0) ≡ biased d (across d t (λ _ b. P i (x + b)) 0)
  middle_at i x p q =
      ap (λ (n : ℕ). get_or s1 n (pos 0)) {y = 0 + i * w + x} (omega arith)
      ∙ area_at (λ i x. biased d (across d t (λ _ b. P i (x + b)) 0)) 0 w (h + 6) s0 s1 i x (pos 0) e (omega (arith, long)) p q

  pub as_long : length s1 ≡ length s0
  as_long = ap length e ∙ rows_length _ _ _ _ _ _

  pub area_halves : Halves 0 ((h + 6) * w) s1
  area_halves = record {
    half = λ k u v.
        let r : (k / w < h + 6) × (k % w < w) = of_lt v in
        subst (λ (z : ℤ). mag z < 16384) (sym (ap (λ (n : ℕ). get_or s1 n (pos 0)) (cell_of k w) ∙ middle_at (k / w) (k % w) r.0 r.1)) (across_half d t _ 0);
  }

  pub window_value : (i j : ℕ) → i < h → j < w → down_at d t s1 (i * w + j) w ≡ pos (wiener d t (λ a b. P (i + a) (j + b)))
  window_value i j p q = ap pos (down_same d t _ _ (λ k u.
      ap (λ (n : ℕ). unbiased d (get_or s1 n (pos 0))) {y = (i + k) * w + j} (omega (arith, add-mul i k w))
      ∙ ap (unbiased d) (middle_at (i + k) j (omega arith) q)
      ∙ bias_off d _
      ∙ across_same d t _ (λ a b. P (i + a) (j + b)) 0 k (λ b v. refl))
      ∙ sym (wiener_is d t (λ a b. P (i + a) (j + b))))

-- ---- a window in a slice is such a source
abbrev pub sampled : List ℤ → ℕ → ℕ → Grid
sampled win at stride i j = nat_abs (get_or win (at + i * stride + j) (pos 0))

pub window_rows : (d : Depth) (t : Taps) (s0 win : List ℤ) {s1 : List ℤ} (at stride w n : ℕ) →
    s1 ≡ rows (λ i x. across_at d t win (at + i * stride + x)) 0 w w n s0 → s1 ≡ rows (λ i x. biased d (across d t (λ _ b. sampled win at stride i (x + b)) 0)) 0 w w n s0
window_rows d t s0 win at stride w n e =
    e ∙ rows_same _ _ _ _ _ _ _ (λ i x p q. ap (biased d) (across_same d t _ _ 0 0 (λ b v. ap (λ (k : ℕ). nat_abs (get_or win k (pos 0))) (omega arith))))
