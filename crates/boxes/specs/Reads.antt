-- A lent slice read as samples, and the sums that a row of the box filter takes of it.
use Rattle.std.specs.Prelude.{List, ℕ, ◌+◌, ◌*◌, ℤ, pos, nat_abs, get_or}
use Rattle.standard.specs.Arithmetic.{sum}
use Rattle.standard.specs.Wiener.{Grid}

abbrev pub sample_at : List ℤ → ℕ → ℕ
sample_at s k = nat_abs (get_or s k (pos 0))

-- rows `st` places apart, from place `from` on
unfoldable pub seen : ℕ → List ℤ → ℕ → Grid
seen st s from y x = sample_at s (from + y * st + x)

-- n samples st places apart, and their squares
unfoldable pub sums : ℕ → List ℤ → ℕ → ℕ → ℕ
sums n s i st = sum n (λ k. sample_at s (i + k * st))

unfoldable pub squares : ℕ → List ℤ → ℕ → ℕ → ℕ
squares n s i st = sum n (λ k. sample_at s (i + k * st) * sample_at s (i + k * st))
