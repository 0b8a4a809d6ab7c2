-- The self-guided filter (§7.17.2) and its box filter (§7.17.3) at one sample, from its 7 by 7 window.
use Rattle.std.specs.Prelude.{cond, List, [], ◌∷◌, ℕ, zero, suc, ◌+◌, ◌-◌, ◌*◌, ◌/◌, ◌%◌, ◌^◌, ℤ, pos, ◌+ℤ◌, ◌-ℤ◌, ◌*ℤ◌, get_or, leb, eqb}
use Rattle.standard.specs.declared.Depth.{Depth}
use Rattle.standard.specs.declared.Weights.{Weights}
use Rattle.standard.specs.Arithmetic.{round2, round_ℕ, clip_to, sum}
use Rattle.standard.specs.Depths.{bits, largest}
use Rattle.standard.specs.Wiener.{Grid}

-- Sgr_Params: r0, eps0, r1, eps1 by set (§7.17.3)
abbrev pub Passes : Type 0
Passes = ℕ × ℕ × ℕ × ℕ

unfoldable pub sgr_params : List Passes
sgr_params =
    (2, 12, 1, 4) ∷ (2, 15, 1, 6) ∷ (2, 18, 1, 8) ∷ (2, 21, 1, 9) ∷ (2, 24, 1, 10) ∷ (2, 29, 1, 11) ∷ (2, 36, 1, 12) ∷ (2, 45, 1, 13) ∷
    (2, 56, 1, 14) ∷ (2, 68, 1, 15) ∷ (0, 0, 1, 5) ∷ (0, 0, 1, 8) ∷ (0, 0, 1, 11) ∷ (0, 0, 1, 14) ∷ (2, 30, 0, 0) ∷ (2, 75, 0, 0) ∷ []

unfoldable pub sgr : ℕ → Passes
sgr set = get_or sgr_params set (0, 0, 0, 0)

-- n, s and oneOverN of the box filter (§7.17.3)
abbrev pub area : ℕ → ℕ
area r = (2 * r + 1) * (2 * r + 1)

abbrev pub scale : ℕ → ℕ → ℕ
scale r eps = (2 ^ 20 + area r * area r * eps / 2) / (area r * area r * eps)

abbrev pub one_over : ℕ → ℕ
one_over n = (4096 + n / 2) / n

-- the sum over the box of radius r round row y, column x: a and b of the box filter (§7.17.3)
unfoldable pub box_sum : ℕ → Grid → ℕ → ℕ → ℕ
box_sum r w y x = sum (2 * r + 1) (λ i. sum (2 * r + 1) (λ j. w (y + i - r) (x + j - r)))

-- p = Max( 0, a * n - d * d ), from the box's sum of squares a and its sum b
unfoldable pub spread : Depth → ℕ → ℕ → ℕ → ℕ
spread d n a b = round_ℕ (2 * (bits d - 8)) a * n - round_ℕ (bits d - 8) b * round_ℕ (bits d - 8) b

-- a2 of z
unfoldable pub a2_of : ℕ → ℕ
a2_of z = cond (leb 255 z) 256 (cond (eqb z 0) 1 ((256 * z + z / 2) / (z + 1)))

-- A[ i ][ j ] and B[ i ][ j ] of the box filter
unfoldable pub a2_at : Depth → ℕ → ℕ → Grid → ℕ → ℕ → ℕ
a2_at d r eps w y x = a2_of (round_ℕ 20 (spread d (area r) (box_sum r (λ i j. w i j * w i j) y x) (box_sum r w y x) * scale r eps))

unfoldable pub b2_at : Depth → ℕ → ℕ → Grid → ℕ → ℕ → ℕ
b2_at d r eps w y x = round_ℕ 12 ((256 - a2_at d r eps w y x) * box_sum r w y x * one_over (area r))

-- weights at dy − 1, dx − 1 for dy, dx in 0 .. 2; y is the sample's row. Pass 0 counts rows of odd number only
unfoldable pub weight : ℕ → ℕ → ℕ → ℕ → ℕ
weight zero y dy dx = cond (eqb ((y + dy) % 2) 0) (cond (eqb dx 1) 6 5) 0
weight (suc _) y dy dx = cond (eqb dx 1) 4 (cond (eqb dy 1) 4 3)

unfoldable pub shift : ℕ → ℕ → ℕ
shift zero y = cond (eqb (y % 2) 1) 4 5
shift (suc _) y = 5

-- the weighted sum over the nine places round the sample, which are 2 .. 4 by 2 .. 4 of the window
unfoldable pub weighted : ℕ → ℕ → Grid → ℕ
weighted pass y g = sum 3 (λ i. sum 3 (λ j. weight pass y i j * g (i + 2) (j + 2)))

-- F[ i ][ j ] of one pass: Round2 by SGR_BITS + shift − RST_BITS
unfoldable pub filtered : ℕ → Depth → ℕ → ℕ → ℕ → Grid → ℕ
filtered pass d y r eps w =
    round_ℕ (4 + shift pass y) (weighted pass y (a2_at d r eps w) * w 3 3 + weighted pass y (b2_at d r eps w))

-- u stands for a filter whose r is 0 (§7.17.2)
unfoldable pub pass_of : ℕ → Depth → ℕ → ℕ → ℕ → Grid → ℕ
pass_of pass d y zero eps w = 16 * w 3 3
pass_of pass d y (suc r) eps w = filtered pass d y (suc r) eps w

unfoldable pub project : Depth → ℤ → ℤ → ℕ → ℕ → ℕ → ℕ
project d w0 w1 u f0 f1 = clip_to (largest d) (round2 11 (w1 *ℤ pos u +ℤ w0 *ℤ pos f0 +ℤ (pos 128 -ℤ w0 -ℤ w1) *ℤ pos f1))

unfoldable pub self_guided : Depth → ℕ → Weights → Grid → ℕ
self_guided d y s w =
    project d s.w0 s.w1 (16 * w 3 3)
    (pass_of 0 d y (sgr s.set).0 (sgr s.set).1 w) (pass_of 1 d y (sgr s.set).2 (sgr s.set).3 w)
