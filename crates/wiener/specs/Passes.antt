-- The two passes of the Wiener filter over rows: the taps repeated along four rows, the middle values kept with a bias, and one sum,
-- one rounding and one clip for both passes.
use Rattle.std.specs.Prelude.{◌≡◌, List, [], ◌∷◌, ℕ, ◌+◌, ◌*◌, ◌^◌, ◌<◌, ◌≤◌, ℤ, pos, nat_abs, ◌+ℤ◌, ◌-ℤ◌, ◌*ℤ◌, get_or}
use Rattle.std.specs.Int.Signed.{mag, shr_z}
use Rattle.laws.specs.Runs.{stamp}
use Rattle.standard.specs.declared.Depth.{Depth}
use Rattle.standard.specs.declared.Taps.{Taps}
use Rattle.standard.specs.Arithmetic.{round2, clip3, clip_to, sum_ℤ}
use Rattle.standard.specs.Depths.{r1, largest, offset}
use Rattle.standard.specs.Wiener.{Grid, tap, middle, across}
use Rattle.wiener.specs.declared.Rounding.{Rounding}

-- ---- tap rows
-- n times each of four taps, 64 places apart
unfoldable pub tap_rows : ℤ → ℤ → ℤ → ℤ → ℕ → List ℤ → List ℤ
tap_rows c0 c1 c2 m n tr = stamp (λ _. m) 192 n (stamp (λ _. c2) 128 n (stamp (λ _. c1) 64 n (stamp (λ _. c0) 0 n tr)))

-- the sizes of three coefficients
pub record Small (c0 c1 c2 : ℤ) : Type 0 where
  pub first : nat_abs c0 ≤ 10
  pub second : nat_abs c1 ≤ 23
  pub third : nat_abs c2 ≤ 46

-- what a reader of the first n places finds there
pub record TapRows (c0 c1 c2 : ℤ) (n : ℕ) (tr : List ℤ) : Type 0 where
  pub first : (k : ℕ) → k < n → get_or tr k (pos 0) ≡ c0
  pub second : (k : ℕ) → k < n → get_or tr (64 + k) (pos 0) ≡ c1
  pub third : (k : ℕ) → k < n → get_or tr (128 + k) (pos 0) ≡ c2
  pub fourth : (k : ℕ) → k < n → get_or tr (192 + k) (pos 0) ≡ middle c0 c1 c2

-- the sizes of the four taps at place k
pub record Narrow (k : ℕ) (tr : List ℤ) : Type 0 where
  pub first : nat_abs (get_or tr k (pos 0)) ≤ 10
  pub second : nat_abs (get_or tr (64 + k) (pos 0)) ≤ 23
  pub third : nat_abs (get_or tr (128 + k) (pos 0)) ≤ 46
  pub fourth : nat_abs (get_or tr (192 + k) (pos 0)) ≤ 286

pub record NarrowRows (n : ℕ) (tr : List ℤ) : Type 0 where
  pub here : (k : ℕ) → k < n → Narrow k tr

-- the seven taps at place k
abbrev pub row_tap : List ℤ → ℕ → ℕ → ℤ
row_tap tr k j =
    get_or (get_or tr k (pos 0) ∷ get_or tr (64 + k) (pos 0) ∷ get_or tr (128 + k) (pos 0) ∷ get_or tr (192 + k) (pos 0) ∷ get_or tr (128 + k) (pos 0) ∷ get_or tr (64 + k) (pos 0) ∷ get_or tr k (pos 0) ∷ []) j (pos 0)

-- ---- seven samples that are st apart
-- −16384 .. 16383 at lo ≤ k < hi: the sum of two fits 16 bits
pub record Halves (lo hi : ℕ) (s : List ℤ) : Type 0 where
  pub half : (k : ℕ) → lo ≤ k → k < hi → mag (get_or s k (pos 0)) < 16384

pub record SevenHalves (c st : ℕ) (s : List ℤ) : Type 0 where
  pub half : (j : ℕ) → j < 7 → mag (get_or s (c + j * st) (pos 0)) < 16384

unfoldable pub seven : List ℤ → ℕ → List ℤ → ℕ → ℕ → ℤ
seven tr k s c st = sum_ℤ 7 (λ j. row_tap tr k j *ℤ get_or s (c + j * st) (pos 0))

-- ---- rounding and clip
unfoldable pub settled : Rounding → ℤ → ℤ
settled a z = clip3 a.low a.high (shr_z (z +ℤ a.add) (2 ^ a.shift))

-- ---- the middle values
-- what is added to a middle value where it is kept
unfoldable pub bias : Depth → ℤ
bias d = pos (offset d) -ℤ pos 16384

unfoldable pub biased : Depth → ℤ → ℤ
biased d z = z +ℤ bias d

unfoldable pub unbiased : Depth → ℤ → ℤ
unbiased d z = z -ℤ bias d

-- the horizontal pass over the seven samples from place c on, as it is kept
abbrev pub across_at : Depth → Taps → List ℤ → ℕ → ℤ
across_at d t src c = biased d (across d t (λ i j. nat_abs (get_or src (c + j) (pos 0))) 0)

-- the vertical pass over seven middle values: `wiener d t w` is `down_of d t (across d t w)`
unfoldable pub down_of : Depth → Taps → (ℕ → ℤ) → ℕ
down_of d t f = clip_to (largest d) (round2 (r1 d) (sum_ℤ 7 (λ k. tap t.v0 t.v1 t.v2 k *ℤ f k)))

-- and over seven kept ones, from place c on and st apart
abbrev pub down_at : Depth → Taps → List ℤ → ℕ → ℕ → ℤ
down_at d t s c st = pos (down_of d t (λ k. unbiased d (get_or s (c + k * st) (pos 0))))

-- ---- the window around sample i, j of an area whose window starts at place `at`, its rows `stride` apart
abbrev pub seen : List ℤ → ℕ → ℕ → ℕ → ℕ → Grid
seen win at stride i j a b = nat_abs (get_or win (at + (i + a) * stride + (j + b)) (pos 0))
