-- Upscale_Filter (§7.16): eight taps for each of 64 phases.
use Rattle.std.specs.Prelude.{List, [], ◌∷◌, ℕ, ℤ, pos, negsuc, get_or}

unfoldable pub upscale_filter : List (List ℤ)
upscale_filter =
    (pos 0 ∷ pos 0 ∷ pos 0 ∷ pos 128 ∷ pos 0 ∷ pos 0 ∷ pos 0 ∷ pos 0 ∷ []) ∷
    (pos 0 ∷ pos 0 ∷ negsuc 0 ∷ pos 128 ∷ pos 2 ∷ negsuc 0 ∷ pos 0 ∷ pos 0 ∷ []) ∷
    (pos 0 ∷ pos 1 ∷ negsuc 2 ∷ pos 127 ∷ pos 4 ∷ negsuc 1 ∷ pos 1 ∷ pos 0 ∷ []) ∷
    (pos 0 ∷ pos 1 ∷ negsuc 3 ∷ pos 127 ∷ pos 6 ∷ negsuc 2 ∷ pos 1 ∷ pos 0 ∷ []) ∷
    (pos 0 ∷ pos 2 ∷ negsuc 5 ∷ pos 126 ∷ pos 8 ∷ negsuc 2 ∷ pos 1 ∷ pos 0 ∷ []) ∷
    (pos 0 ∷ pos 2 ∷ negsuc 6 ∷ pos 125 ∷ pos 11 ∷ negsuc 3 ∷ pos 1 ∷ pos 0 ∷ []) ∷
    (negsuc 0 ∷ pos 2 ∷ negsuc 7 ∷ pos 125 ∷ pos 13 ∷ negsuc 4 ∷ pos 2 ∷ pos 0 ∷ []) ∷
    (negsuc 0 ∷ pos 3 ∷ negsuc 8 ∷ pos 124 ∷ pos 15 ∷ negsuc 5 ∷ pos 2 ∷ pos 0 ∷ []) ∷
    (negsuc 0 ∷ pos 3 ∷ negsuc 9 ∷ pos 123 ∷ pos 18 ∷ negsuc 5 ∷ pos 2 ∷ negsuc 0 ∷ []) ∷
    (negsuc 0 ∷ pos 3 ∷ negsuc 10 ∷ pos 122 ∷ pos 20 ∷ negsuc 6 ∷ pos 3 ∷ negsuc 0 ∷ []) ∷
    (negsuc 0 ∷ pos 4 ∷ negsuc 11 ∷ pos 121 ∷ pos 22 ∷ negsuc 7 ∷ pos 3 ∷ negsuc 0 ∷ []) ∷
    (negsuc 0 ∷ pos 4 ∷ negsuc 12 ∷ pos 120 ∷ pos 25 ∷ negsuc 8 ∷ pos 3 ∷ negsuc 0 ∷ []) ∷
    (negsuc 0 ∷ pos 4 ∷ negsuc 13 ∷ pos 118 ∷ pos 28 ∷ negsuc 8 ∷ pos 3 ∷ negsuc 0 ∷ []) ∷
    (negsuc 0 ∷ pos 4 ∷ negsuc 14 ∷ pos 117 ∷ pos 30 ∷ negsuc 9 ∷ pos 4 ∷ negsuc 0 ∷ []) ∷
    (negsuc 0 ∷ pos 5 ∷ negsuc 15 ∷ pos 116 ∷ pos 32 ∷ negsuc 10 ∷ pos 4 ∷ negsuc 0 ∷ []) ∷
    (negsuc 0 ∷ pos 5 ∷ negsuc 15 ∷ pos 114 ∷ pos 35 ∷ negsuc 11 ∷ pos 4 ∷ negsuc 0 ∷ []) ∷
    (negsuc 0 ∷ pos 5 ∷ negsuc 16 ∷ pos 112 ∷ pos 38 ∷ negsuc 11 ∷ pos 4 ∷ negsuc 0 ∷ []) ∷
    (negsuc 0 ∷ pos 5 ∷ negsuc 17 ∷ pos 111 ∷ pos 40 ∷ negsuc 12 ∷ pos 5 ∷ negsuc 0 ∷ []) ∷
    (negsuc 0 ∷ pos 5 ∷ negsuc 17 ∷ pos 109 ∷ pos 43 ∷ negsuc 13 ∷ pos 5 ∷ negsuc 0 ∷ []) ∷
    (negsuc 0 ∷ pos 6 ∷ negsuc 18 ∷ pos 107 ∷ pos 45 ∷ negsuc 13 ∷ pos 5 ∷ negsuc 0 ∷ []) ∷
    (negsuc 0 ∷ pos 6 ∷ negsuc 18 ∷ pos 105 ∷ pos 48 ∷ negsuc 14 ∷ pos 5 ∷ negsuc 0 ∷ []) ∷
    (negsuc 0 ∷ pos 6 ∷ negsuc 18 ∷ pos 103 ∷ pos 51 ∷ negsuc 15 ∷ pos 5 ∷ negsuc 0 ∷ []) ∷
    (negsuc 0 ∷ pos 6 ∷ negsuc 19 ∷ pos 101 ∷ pos 53 ∷ negsuc 15 ∷ pos 6 ∷ negsuc 0 ∷ []) ∷
    (negsuc 0 ∷ pos 6 ∷ negsuc 19 ∷ pos 99 ∷ pos 56 ∷ negsuc 16 ∷ pos 6 ∷ negsuc 0 ∷ []) ∷
    (negsuc 0 ∷ pos 6 ∷ negsuc 19 ∷ pos 97 ∷ pos 58 ∷ negsuc 16 ∷ pos 6 ∷ negsuc 0 ∷ []) ∷
    (negsuc 0 ∷ pos 6 ∷ negsuc 19 ∷ pos 95 ∷ pos 61 ∷ negsuc 17 ∷ pos 6 ∷ negsuc 0 ∷ []) ∷
    (negsuc 1 ∷ pos 7 ∷ negsuc 19 ∷ pos 93 ∷ pos 64 ∷ negsuc 17 ∷ pos 6 ∷ negsuc 1 ∷ []) ∷
    (negsuc 1 ∷ pos 7 ∷ negsuc 19 ∷ pos 91 ∷ pos 66 ∷ negsuc 18 ∷ pos 6 ∷ negsuc 0 ∷ []) ∷
    (negsuc 1 ∷ pos 7 ∷ negsuc 19 ∷ pos 88 ∷ pos 69 ∷ negsuc 18 ∷ pos 6 ∷ negsuc 0 ∷ []) ∷
    (negsuc 1 ∷ pos 7 ∷ negsuc 19 ∷ pos 86 ∷ pos 71 ∷ negsuc 18 ∷ pos 6 ∷ negsuc 0 ∷ []) ∷
    (negsuc 1 ∷ pos 7 ∷ negsuc 19 ∷ pos 84 ∷ pos 74 ∷ negsuc 19 ∷ pos 7 ∷ negsuc 1 ∷ []) ∷
    (negsuc 1 ∷ pos 7 ∷ negsuc 19 ∷ pos 81 ∷ pos 76 ∷ negsuc 19 ∷ pos 7 ∷ negsuc 0 ∷ []) ∷
    (negsuc 1 ∷ pos 7 ∷ negsuc 19 ∷ pos 79 ∷ pos 79 ∷ negsuc 19 ∷ pos 7 ∷ negsuc 1 ∷ []) ∷
    (negsuc 0 ∷ pos 7 ∷ negsuc 19 ∷ pos 76 ∷ pos 81 ∷ negsuc 19 ∷ pos 7 ∷ negsuc 1 ∷ []) ∷
    (negsuc 1 ∷ pos 7 ∷ negsuc 19 ∷ pos 74 ∷ pos 84 ∷ negsuc 19 ∷ pos 7 ∷ negsuc 1 ∷ []) ∷
    (negsuc 0 ∷ pos 6 ∷ negsuc 18 ∷ pos 71 ∷ pos 86 ∷ negsuc 19 ∷ pos 7 ∷ negsuc 1 ∷ []) ∷
    (negsuc 0 ∷ pos 6 ∷ negsuc 18 ∷ pos 69 ∷ pos 88 ∷ negsuc 19 ∷ pos 7 ∷ negsuc 1 ∷ []) ∷
    (negsuc 0 ∷ pos 6 ∷ negsuc 18 ∷ pos 66 ∷ pos 91 ∷ negsuc 19 ∷ pos 7 ∷ negsuc 1 ∷ []) ∷
    (negsuc 1 ∷ pos 6 ∷ negsuc 17 ∷ pos 64 ∷ pos 93 ∷ negsuc 19 ∷ pos 7 ∷ negsuc 1 ∷ []) ∷
    (negsuc 0 ∷ pos 6 ∷ negsuc 17 ∷ pos 61 ∷ pos 95 ∷ negsuc 19 ∷ pos 6 ∷ negsuc 0 ∷ []) ∷
    (negsuc 0 ∷ pos 6 ∷ negsuc 16 ∷ pos 58 ∷ pos 97 ∷ negsuc 19 ∷ pos 6 ∷ negsuc 0 ∷ []) ∷
    (negsuc 0 ∷ pos 6 ∷ negsuc 16 ∷ pos 56 ∷ pos 99 ∷ negsuc 19 ∷ pos 6 ∷ negsuc 0 ∷ []) ∷
    (negsuc 0 ∷ pos 6 ∷ negsuc 15 ∷ pos 53 ∷ pos 101 ∷ negsuc 19 ∷ pos 6 ∷ negsuc 0 ∷ []) ∷
    (negsuc 0 ∷ pos 5 ∷ negsuc 15 ∷ pos 51 ∷ pos 103 ∷ negsuc 18 ∷ pos 6 ∷ negsuc 0 ∷ []) ∷
    (negsuc 0 ∷ pos 5 ∷ negsuc 14 ∷ pos 48 ∷ pos 105 ∷ negsuc 18 ∷ pos 6 ∷ negsuc 0 ∷ []) ∷
    (negsuc 0 ∷ pos 5 ∷ negsuc 13 ∷ pos 45 ∷ pos 107 ∷ negsuc 18 ∷ pos 6 ∷ negsuc 0 ∷ []) ∷
    (negsuc 0 ∷ pos 5 ∷ negsuc 13 ∷ pos 43 ∷ pos 109 ∷ negsuc 17 ∷ pos 5 ∷ negsuc 0 ∷ []) ∷
    (negsuc 0 ∷ pos 5 ∷ negsuc 12 ∷ pos 40 ∷ pos 111 ∷ negsuc 17 ∷ pos 5 ∷ negsuc 0 ∷ []) ∷
    (negsuc 0 ∷ pos 4 ∷ negsuc 11 ∷ pos 38 ∷ pos 112 ∷ negsuc 16 ∷ pos 5 ∷ negsuc 0 ∷ []) ∷
    (negsuc 0 ∷ pos 4 ∷ negsuc 11 ∷ pos 35 ∷ pos 114 ∷ negsuc 15 ∷ pos 5 ∷ negsuc 0 ∷ []) ∷
    (negsuc 0 ∷ pos 4 ∷ negsuc 10 ∷ pos 32 ∷ pos 116 ∷ negsuc 15 ∷ pos 5 ∷ negsuc 0 ∷ []) ∷
    (negsuc 0 ∷ pos 4 ∷ negsuc 9 ∷ pos 30 ∷ pos 117 ∷ negsuc 14 ∷ pos 4 ∷ negsuc 0 ∷ []) ∷
    (negsuc 0 ∷ pos 3 ∷ negsuc 8 ∷ pos 28 ∷ pos 118 ∷ negsuc 13 ∷ pos 4 ∷ negsuc 0 ∷ []) ∷
    (negsuc 0 ∷ pos 3 ∷ negsuc 8 ∷ pos 25 ∷ pos 120 ∷ negsuc 12 ∷ pos 4 ∷ negsuc 0 ∷ []) ∷
    (negsuc 0 ∷ pos 3 ∷ negsuc 7 ∷ pos 22 ∷ pos 121 ∷ negsuc 11 ∷ pos 4 ∷ negsuc 0 ∷ []) ∷
    (negsuc 0 ∷ pos 3 ∷ negsuc 6 ∷ pos 20 ∷ pos 122 ∷ negsuc 10 ∷ pos 3 ∷ negsuc 0 ∷ []) ∷
    (negsuc 0 ∷ pos 2 ∷ negsuc 5 ∷ pos 18 ∷ pos 123 ∷ negsuc 9 ∷ pos 3 ∷ negsuc 0 ∷ []) ∷
    (pos 0 ∷ pos 2 ∷ negsuc 5 ∷ pos 15 ∷ pos 124 ∷ negsuc 8 ∷ pos 3 ∷ negsuc 0 ∷ []) ∷
    (pos 0 ∷ pos 2 ∷ negsuc 4 ∷ pos 13 ∷ pos 125 ∷ negsuc 7 ∷ pos 2 ∷ negsuc 0 ∷ []) ∷
    (pos 0 ∷ pos 1 ∷ negsuc 3 ∷ pos 11 ∷ pos 125 ∷ negsuc 6 ∷ pos 2 ∷ pos 0 ∷ []) ∷
    (pos 0 ∷ pos 1 ∷ negsuc 2 ∷ pos 8 ∷ pos 126 ∷ negsuc 5 ∷ pos 2 ∷ pos 0 ∷ []) ∷
    (pos 0 ∷ pos 1 ∷ negsuc 2 ∷ pos 6 ∷ pos 127 ∷ negsuc 3 ∷ pos 1 ∷ pos 0 ∷ []) ∷
    (pos 0 ∷ pos 1 ∷ negsuc 1 ∷ pos 4 ∷ pos 127 ∷ negsuc 2 ∷ pos 1 ∷ pos 0 ∷ []) ∷
    (pos 0 ∷ pos 0 ∷ negsuc 0 ∷ pos 2 ∷ pos 128 ∷ negsuc 0 ∷ pos 0 ∷ pos 0 ∷ []) ∷ []

-- tap k of a phase
unfoldable pub up_tap : ℕ → ℕ → ℤ
up_tap phase k = get_or (get_or upscale_filter phase []) k (pos 0)
