-- Bytes as numbers of 16 bits, low byte first.
use Rattle.std.specs.Prelude.{ℕ, ◌+◌, ◌*◌, List, [], ◌∷◌}

-- A single byte at the end is no entry.
unfoldable pub entries : List ℕ → List ℕ
entries [] = []
entries (low ∷ []) = []
entries (low ∷ high ∷ rest) = (low + 256 * high) ∷ entries rest
