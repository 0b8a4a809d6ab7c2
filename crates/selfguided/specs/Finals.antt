-- What a row of results reads, and F as code computes it from the areas of the scratch.
use Rattle.std.specs.Prelude.{List, ℕ, ◌+◌, ◌*◌, ◌≤◌, ℤ, length}
use Rattle.laws.specs.Bounds.{Samples}
use Rattle.standard.specs.Arithmetic.{round_ℕ}
use Rattle.boxes.specs.Reads.{sample_at, seen}
use Rattle.selfguided.specs.Weighing.{crossed}

-- pass 1, and pass 0 at an even and at an odd row, for the sample u
abbrev pub cross_f : List ℤ → ℕ → ℕ → ℕ → ℕ → ℕ
cross_f s a b st u = round_ℕ 9 (crossed (seen st s a) * u + crossed (seen st s b))

abbrev pub even_f : List ℤ → ℕ → ℕ → ℕ → ℕ → ℕ
even_f s a b n u = round_ℕ 9 ((sample_at s a + sample_at s (a + n)) * u + (sample_at s b + sample_at s (b + n)))

abbrev pub odd_f : List ℤ → ℕ → ℕ → ℕ → ℕ
odd_f s a b u = round_ℕ 8 (sample_at s a * u + sample_at s b)

-- n samples at u
pub record Source (n u : ℕ) (s : List ℤ) : Type 0 where
  pub room : u + n ≤ length s
  pub samples : Samples 4095 u (u + n) s

-- n 5-6-5 sums of a2 at a, of b2 at b
pub record Sixes (n a b : ℕ) (s : List ℤ) : Type 0 where
  pub room_a : a + n ≤ length s
  pub room_b : b + n ≤ length s
  pub samples_a : Samples 4096 a (a + n) s
  pub samples_b : Samples 16723920 b (b + n) s

-- n values of a2 at a, of b2 at b
pub record Crosses (n a b : ℕ) (s : List ℤ) : Type 0 where
  pub room_a : a + n ≤ length s
  pub room_b : b + n ≤ length s
  pub samples_a : Samples 256 a (a + n) s
  pub samples_b : Samples 1045245 b (b + n) s
