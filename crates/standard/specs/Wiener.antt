-- The Wiener filter (§7.17.4, §7.17.5) at one sample, from its 7 by 7 window: row and column 0 .. 6, the sample itself at 3, 3.
use Rattle.std.specs.Prelude.{[], ◌∷◌, ℕ, ℤ, pos, ◌+ℤ◌, ◌-ℤ◌, ◌*ℤ◌, neg_ℤ, get_or}
use Rattle.standard.specs.declared.Depth.{Depth}
use Rattle.standard.specs.declared.Taps.{Taps}
use Rattle.standard.specs.Arithmetic.{round2, clip3, clip_to, sum_ℤ}
use Rattle.standard.specs.Depths.{r0, r1, largest, offset, limit}

-- a plane or a window: row, column
abbrev pub Grid : Type 0
Grid = ℕ → ℕ → ℕ

-- the seven taps of three coefficients sum to 128 (§7.17.5)
abbrev pub middle : ℤ → ℤ → ℤ → ℤ
middle c0 c1 c2 = pos 128 -ℤ pos 2 *ℤ (c0 +ℤ c1 +ℤ c2)

abbrev pub tap : ℤ → ℤ → ℤ → ℕ → ℤ
tap c0 c1 c2 k = get_or (c0 ∷ c1 ∷ c2 ∷ middle c0 c1 c2 ∷ c2 ∷ c1 ∷ c0 ∷ []) k (pos 0)

-- the clip between the passes (§7.17.4)
unfoldable pub clip_mid : Depth → ℤ → ℤ
clip_mid d z = clip3 (neg_ℤ (pos (offset d))) (pos (limit d) -ℤ pos (offset d)) z

-- the horizontal pass at one row of the window: intermediate[ r ][ c ] (§7.17.4)
unfoldable pub across : Depth → Taps → Grid → ℕ → ℤ
across d t w i = clip_mid d (round2 (r0 d) (sum_ℤ 7 (λ j. tap t.h0 t.h1 t.h2 j *ℤ pos (w i j))))

-- the vertical pass over the seven rows (§7.17.4)
unfoldable pub wiener : Depth → Taps → Grid → ℕ
wiener d t w = clip_to (largest d) (round2 (r1 d) (sum_ℤ 7 (λ i. tap t.v0 t.v1 t.v2 i *ℤ across d t w i)))
