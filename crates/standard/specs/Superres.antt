-- The upscaling process (§7.16): one output sample of a row. d and u are the plane's two widths, downscaled and upscaled.
use Rattle.std.specs.Prelude.{ℕ, ◌+◌, ◌-◌, ◌*◌, ◌/◌, ◌^◌, min, ℤ, pos, ◌+ℤ◌, ◌-ℤ◌, ◌*ℤ◌}
use Rattle.std.specs.Int.Signed.{shr_z, quot_z}
use Rattle.standard.specs.declared.Depth.{Depth}
use Rattle.standard.specs.Arithmetic.{round2, clip_to, wrap, sum_ℤ}
use Rattle.standard.specs.Depths.{largest}
use Rattle.standard.specs.UpscaleFilter.{up_tap}

-- stepX, err and initialSubpelX. quot_z divides toward zero
unfoldable pub step : ℕ → ℕ → ℕ
step d u = (2 ^ 14 * d + u / 2) / u

unfoldable pub err : ℕ → ℕ → ℤ
err d u = pos (u * step d u) -ℤ pos (2 ^ 14 * d)

unfoldable pub start : ℕ → ℕ → ℕ
start d u = wrap (2 ^ 14) (quot_z (pos (u / 2) -ℤ pos (u - d) *ℤ pos (2 ^ 13)) (pos u) +ℤ pos 128 -ℤ quot_z (err d u) (pos 2))

-- srcX of output column x, its whole part srcPx, and its phase srcXSubpel
unfoldable pub position : ℕ → ℕ → ℕ → ℤ
position d u x = pos (start d u + x * step d u) -ℤ pos (2 ^ 14)

unfoldable pub whole : ℕ → ℕ → ℕ → ℤ
whole d u x = shr_z (position d u x) (2 ^ 14)

unfoldable pub phase : ℕ → ℕ → ℕ → ℕ
phase d u x = wrap 64 (shr_z (position d u x) (2 ^ 8))

-- lastX, from the frame width: 4 · (MiCols >> sub_x_of) − 1 with MiCols = 2 · ((FrameWidth + 7) >> 3)
unfoldable pub last_col : ℕ → ℕ → ℕ
last_col frame sx = 4 * (2 * ((frame + 7) / 8) / 2 ^ sx) - 1

-- the column that tap k reads: clipped to lastX, then to the last column of a row that is cols long. The second clip is the Rust's
-- (docs/DIFFERENCES.md); it acts only on rows shorter than the first allows
unfoldable pub column : ℕ → ℕ → ℕ → ℕ → ℕ → ℕ → ℕ
column d u last cols x k = min (clip_to last (whole d u x +ℤ pos k -ℤ pos 3)) (cols - 1)

unfoldable pub upscaled : Depth → ℕ → ℕ → ℕ → ℕ → (ℕ → ℕ) → ℕ → ℕ
upscaled dep d u last cols row x =
    clip_to (largest dep) (round2 7 (sum_ℤ 8 (λ k. up_tap (phase d u x) k *ℤ pos (row (column d u last cols x k)))))
