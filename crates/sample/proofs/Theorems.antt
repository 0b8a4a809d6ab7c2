-- No second answer keeps the promise of `restore_sample`, a refused one gives its number back by its sign, and the row counts only by being odd or even.
use mathlib.Core.Path.{◌≡◌, refl, sym, ◌∙◌, ap}
use mathlib.Core.List.{List}
use Prim.Native.Nat.{ℕ, ◌%◌, ◌≤◌}
use lib.IntN.{ℤ, pos, neg_ℤ, neg_ℤ-neg_ℤ}
use Rattle.standard.specs.Depths.{depth_of}
use Rattle.standard.specs.Units.{kind_of}
use Rattle.standard.specs.Refusals.{first, sample_tests}
use Rattle.standard.specs.Calls.{byte_window, if_done, sample_answer}
use Rattle.standard.proofs.Parity.{restored_parity}
use Rattle.sample.proofs.Numbers.{sample_refused}

module _ (depth row : ℕ) (entry : List ℤ) (bytes : List ℕ) where
  pub sample_once : (r s : ℤ) → r ≡ sample_answer depth row entry bytes → s ≡ sample_answer depth row entry bytes → r ≡ s
  sample_once r s p q = p ∙ sym q

  -- the number of a refused call
  pub number_back : (r : ℤ) → r ≡ sample_answer depth row entry bytes → 1 ≤ first (sample_tests depth entry bytes) → neg_ℤ r ≡ pos (first (sample_tests depth entry bytes))
  number_back r p h = ap neg_ℤ (p ∙ sym (sample_refused depth row entry bytes (first (sample_tests depth entry bytes)) refl h)) ∙ neg_ℤ-neg_ℤ (pos (first (sample_tests depth entry bytes)))

  pub row_parity : sample_answer depth row entry bytes ≡ sample_answer depth (row % 2) entry bytes
  unfolding sample_answer
  row_parity = ap (λ (n : ℕ). if_done (first (sample_tests depth entry bytes)) (pos n) (neg_ℤ (pos (first (sample_tests depth entry bytes))))) (restored_parity (depth_of depth) row (kind_of entry 0) (byte_window bytes))
