-- What the inner functions promise: one output sample from a start, a step and a row of integers, all in natural numbers. `proofs` shows
-- that it is the definition of `standard`.
use Rattle.std.specs.Prelude.{List, ℕ, ◌+◌, ◌-◌, ◌*◌, ◌/◌, ◌%◌, ◌≤◌, ◌<◌, min, ℤ, pos, ◌*ℤ◌, length, get_or, ◌≡◌}
use Rattle.laws.specs.Bounds.{Sized}
use Rattle.standard.specs.Arithmetic.{round2, clip_to, sum_ℤ}
use Rattle.standard.specs.UpscaleFilter.{up_tap}

-- whole part, one up, and phase of column x
abbrev pub place_at : ℕ → ℕ → ℕ → ℕ
place_at start step x = (start + x * step) / 16384

abbrev pub phase_at : ℕ → ℕ → ℕ → ℕ
phase_at start step x = (start + x * step) % 16384 / 256

-- eight samples of r from i on, times eight taps of t from f on
unfoldable pub dot : List ℤ → ℕ → List ℤ → ℕ → ℤ
dot r i t f = sum_ℤ 8 (λ k. get_or t (f + k) (pos 0) *ℤ get_or r (i + k) (pos 0))

-- column x of a row
unfoldable pub scaled : ℕ → ℕ → ℕ → ℕ → (ℕ → ℤ) → ℕ → ℤ
scaled top start step last row x =
    pos (clip_to top (round2 7 (sum_ℤ 8 (λ k. up_tap (phase_at start step x) k *ℤ row (min (place_at start step x + k - 4) last)))))

-- the three runs of a row's part of n samples from column q0 - 4 on
pub record Cut (q0 n last left at mid right : ℕ) : Type 0 where
  pub whole : left + mid + right ≡ n
  pub begin : q0 + left ≡ at + 4
  pub lead : 0 < left → at ≡ 0
  pub inside : at + mid ≤ last + 1
  pub full : 0 < right → last ≤ at + mid

-- the places of n columns lie within a row's part r of samples, and their tap rows within the taps
pub record Reach (n : ℕ) (r : List ℤ) (ps fs : List ℕ) : Type 0 where
  pub many : n ≤ length ps
  pub many_rows : n ≤ length fs
  pub place : (x : ℕ) → x < n → get_or ps x 0 + 8 ≤ length r
  pub sized : (x : ℕ) → x < n → Sized 4095 (get_or ps x 0) (get_or ps x 0 + 8) r
  pub tap_row : (x : ℕ) → x < n → get_or fs x 0 + 8 ≤ 512

-- the taps of the table, row after row
pub record Laid (t : List ℤ) : Type 0 where
  pub long : 512 ≤ length t
  pub tap : (i : ℕ) → i < 512 → get_or t i (pos 0) ≡ up_tap (i / 8) (i % 8)

-- what a plane's numbers and slices keep: samples in range, room for each row, and no place far past the last column
pub record Fit (start step last cols rows width top : ℕ) (src : List ℤ) (out : ℕ) : Type 0 where
  pub begins : start < 16384
  pub steps : step ≤ 16384
  pub ends : last < cols
  pub wide : cols ≤ 16392
  pub across : width ≤ 16384
  pub reach : (x : ℕ) → x < width → place_at start step x ≤ last + 4
  pub tall : rows ≤ 16384
  pub bright : top ≤ 4095
  pub has : rows * cols ≤ length src
  pub sized : Sized 4095 0 (length src) src
  pub room : rows * width ≤ out

-- what a block's numbers and tables keep: n columns from x0 on, which read `need` samples from place q0 on
pub record Ready (start step x0 n q0 need : ℕ) (ps fs : List ℕ) : Type 0 where
  pub some : 1 ≤ n
  pub most : n ≤ 1024
  pub from : q0 ≡ place_at start step x0
  pub needs : need ≡ place_at start step (x0 + n - 1) - q0 + 8
  pub many : n ≤ length ps
  pub many_rows : n ≤ length fs
  pub place : (x : ℕ) → x < n → get_or ps x 0 ≡ place_at start step (x0 + x) - place_at start step x0
  pub tap_row : (x : ℕ) → x < n → get_or fs x 0 ≡ phase_at start step (x0 + x) * 8
