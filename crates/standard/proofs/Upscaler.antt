-- The upscaler's taps have one rule, tested once over the whole table and carried to each phase; so a flat row stays flat. The phase and
-- the column read are in range, and so is every sample.
use mathlib.Core.Path.{◌≡◌, ap, ◌∙◌, refl}
use mathlib.Core.Bool.{Bool, false}
use Prim.Native.Nat.{ℕ, suc, ◌-◌, ◌≤◌, ◌<◌, ◌+◌}
use native.Mathlib.Omega.{arith}
use native.Mathlib.Nat.{mod-lt}
use lib.IntN.{ℤ, pos, negsuc, ◌*ℤ◌}
use lib.Dec.{T, eqb, eqb→eq}
use Rattle.laws.specs.Lists.{all_below, below_at}
use Rattle.standard.specs.declared.Depth.{Depth}
use Rattle.standard.specs.Arithmetic.{round2, round_ℕ, clip_to, wrap, sum_ℤ}
use Rattle.standard.specs.Depths.{largest}
use Rattle.standard.specs.UpscaleFilter.{upscale_filter, up_tap}
use Rattle.standard.specs.Superres.{step, err, start, last_col, phase, column, upscaled}
use Rattle.standard.proofs.Sums.{sum_times}
use Rattle.standard.proofs.Range.{clip_le}
use Rattle.standard.proofs.Stripes.{Halved, full, half}

abbrev pub eq_z : ℤ → ℤ → Bool
eq_z (pos a) (pos b) = eqb a b
eq_z (negsuc a) (negsuc b) = eqb a b
eq_z (pos a) (negsuc b) = false
eq_z (negsuc a) (pos b) = false

pub eq_z→eq : (x y : ℤ) → T (eq_z x y) → x ≡ y
eq_z→eq (pos a) (pos b) t = ap pos (eqb→eq a b t)
eq_z→eq (negsuc a) (negsuc b) t = ap negsuc (eqb→eq a b t)
eq_z→eq (pos a) (negsuc b) t = absurd t
eq_z→eq (negsuc a) (pos b) t = absurd t

-- each row sums to 128
pub tap_sum : (p : ℕ) → p < 64 → sum_ℤ 8 (up_tap p) ≡ pos 128
unfolding all_below sum_ℤ up_tap upscale_filter
tap_sum p h = eq_z→eq _ (pos 128) (below_at 64 (λ p. eq_z (sum_ℤ 8 (up_tap p)) (pos 128)) tt p h)

-- row 64 − k is row k backwards, k = 1 .. 63
pub tap_mirror : (k j : ℕ) → k < 63 → j < 8 → up_tap (63 - k) j ≡ up_tap (suc k) (7 - j)
unfolding all_below up_tap upscale_filter
tap_mirror k j h i = eq_z→eq _ _ (below_at 8 (λ j. eq_z (up_tap (63 - k) j) (up_tap (suc k) (7 - j))) (below_at 63 (λ k. all_below 8 (λ j. eq_z (up_tap (63 - k) j) (up_tap (suc k) (7 - j)))) tt k h) j i)

pub wrap_lt : (m : ℕ) (z : ℤ) → 0 < m → wrap m z < m
unfolding wrap
wrap_lt m (pos n) h = mod-lt n h
wrap_lt m (negsuc n) h = omega (arith, mod-lt n h)

pub phase_lt : (d u x : ℕ) → phase d u x < 64
unfolding phase
phase_lt d u x = wrap_lt 64 _ (omega arith)

-- the taps' rule at the phase of each output column
pub phase_sum : (d u x : ℕ) → sum_ℤ 8 (up_tap (phase d u x)) ≡ pos 128
phase_sum d u x = tap_sum (phase d u x) (phase_lt d u x)

-- the column read is a column of the row
pub column_lt : (d u last cols x k : ℕ) → 0 < cols → column d u last cols x k < cols
unfolding column
column_lt d u last cols x k h = omega arith

pub upscaled_range : (dep : Depth) (d u last cols : ℕ) (row : ℕ → ℕ) (x : ℕ) → upscaled dep d u last cols row x ≤ largest dep
unfolding upscaled
upscaled_range dep d u last cols row x = clip_le (largest dep) _

round_flat : (dep : Depth) (v : ℕ) → v ≤ largest dep → clip_to (largest dep) (round2 7 (pos 128 *ℤ pos v)) ≡ v
unfolding clip_to round2
round_flat dep v h = omega arith

pub upscaled_flat : (dep : Depth) (d u last cols v x : ℕ) → v ≤ largest dep → upscaled dep d u last cols (λ _. v) x ≡ v
unfolding upscaled
upscaled_flat dep d u last cols v x h =
    ap (λ z. clip_to (largest dep) (round2 7 z)) (sum_times 8 (up_tap (phase d u x)) (pos v) ∙ ap (λ z. z *ℤ pos v) (phase_sum d u x))
    ∙ round_flat dep v h

-- ---- 79 to 89 shows that err / 2 goes toward zero, and the start of 60 to 61 does not wrap
pub starts : (step 79 89 ≡ 14543) × (err 79 89 ≡ negsuc 8) × (start 79 89 ≡ 15597) × (start 60 61 ≡ 7)
unfolding start step err wrap
starts = (refl, refl, refl, refl)

-- the first clip lets every column of the frame be read, and at most seven columns past it
pub last_col_lem : {sx : ℕ} → Halved sx → (n : ℕ) → (round_ℕ sx n ≤ suc (last_col n sx)) × (0 < n → suc (last_col n sx) ≤ round_ℕ sx n + 7)
unfolding round_ℕ last_col
last_col_lem full n = (omega arith, λ p. omega arith)
last_col_lem half n = (omega arith, λ p. omega arith)
