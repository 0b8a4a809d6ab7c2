-- Clip1 as the least of the top and the most of 0 and the number.
use Rattle.std.specs.Prelude.{◌≡◌, ℕ, ℤ, pos, negsuc}
use Rattle.std.specs.Int.{int_max, int_min}
use Rattle.std.proofs.Common.{arith}
use Rattle.standard.specs.Arithmetic.{clip_to}

pub clamped : (x : ℤ) (t : ℕ) → int_max (pos 0) (int_min x (pos t)) ≡ pos (clip_to t x)
unfolding clip_to
clamped (pos n) t = grind arith
clamped (negsuc n) t = grind arith
