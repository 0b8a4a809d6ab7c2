-- The weighted sums as code takes them: a row of pass 0, and the nine places of pass 1.
use Rattle.std.specs.Prelude.{ℕ, ◌+◌, ◌*◌}
use Rattle.standard.specs.Arithmetic.{sum}
use Rattle.standard.specs.Wiener.{Grid}
use Rattle.standard.specs.SelfGuided.{weight}

-- 6 in the middle and 5 beside
unfoldable pub five_six : (ℕ → ℕ) → ℕ
five_six f = 5 * f 0 + 6 * f 1 + 5 * f 2

-- the weights of pass 1 do not depend on the row
unfoldable pub crossed : Grid → ℕ
crossed g = sum 3 (λ i. sum 3 (λ j. weight 1 0 i j * g i j))
