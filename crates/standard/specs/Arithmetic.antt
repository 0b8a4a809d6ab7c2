-- Mathematical functions of the specification (§4.7), and sums.
use Rattle.std.specs.Prelude.{cond, ℕ, zero, suc, ◌+◌, ◌-◌, ◌/◌, ◌%◌, ◌^◌, min, ℤ, pos, negsuc, ◌+ℤ◌}
use Rattle.std.specs.Int.Signed.{shr_z, lt_z}

-- Round2 of an integer. shr_z x m is x divided by m, rounded down: a shift that keeps the sign
unfoldable pub round2 : ℕ → ℤ → ℤ
round2 zero x = x
round2 (suc n) x = shr_z (x +ℤ pos (2 ^ n)) (2 ^ suc n)

-- Round2 of a natural number
unfoldable pub round_ℕ : ℕ → ℕ → ℕ
round_ℕ zero x = x
round_ℕ (suc n) x = (x + 2 ^ n) / 2 ^ suc n

-- Clip3
unfoldable pub clip3 : ℤ → ℤ → ℤ → ℤ
clip3 lo hi x = cond (lt_z x lo) lo (cond (lt_z hi x) hi x)

-- Clip3 to 0 .. top, as a natural number: Clip1 where top is the depth's largest sample
unfoldable pub clip_to : ℕ → ℤ → ℕ
clip_to top (pos n) = min n top
clip_to top (negsuc _) = 0

-- x mod m, in 0 .. m − 1: x & (m − 1) for a power of two
unfoldable pub wrap : ℕ → ℤ → ℕ
wrap m (pos n) = n % m
wrap m (negsuc n) = m - suc (n % m)

-- f 0 + .. + f (n − 1)
unfoldable pub sum : ℕ → (ℕ → ℕ) → ℕ
sum zero f = 0
sum (suc n) f = sum n f + f n

unfoldable pub sum_ℤ : ℕ → (ℕ → ℤ) → ℤ
sum_ℤ zero f = pos 0
sum_ℤ (suc n) f = sum_ℤ n f +ℤ f n
