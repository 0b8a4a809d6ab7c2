-- No second answer keeps the promise of `capture_edges`, and a refused call leaves the slice as it was.
use mathlib.Core.Path.{◌≡◌, sym, ◌∙◌}
use mathlib.Core.List.{List}
use Prim.Native.Nat.{◌≤◌}
use native.Mathlib.Omega.{arith}
use lib.IntN.{ℤ}
use lib.ListN.{length}
use Rattle.std.specs.Prelude.{Result}
use Rattle.standard.specs.declared.Frame.{Frame}
use Rattle.standard.specs.declared.Refusal.{Refusal}
use Rattle.standard.specs.Answers.{of_stored}
use Rattle.standard.specs.Calls.{capture_edges}
use Rattle.standard.specs.Refusals.{capture_tests, first}
use Rattle.standard.proofs.Answers.{stored_once}
use Rattle.edges.proofs.Numbers.{captured_refused}

module _ (f : Frame) (D E : List ℤ) where
  pub capture_once : (r s : Result (Unit {0}) Refusal) → of_stored r ≡ first (capture_tests f D (length E)) → of_stored s ≡ first (capture_tests f D (length E)) → r ≡ s
  capture_once r s p q = stored_once r s (p ∙ sym q)

  pub refused_as_it_was : (r : Result (Unit {0}) Refusal) → of_stored r ≡ first (capture_tests f D (length E)) → 1 ≤ of_stored r → capture_edges f D E ≡ E
  refused_as_it_was r p h = sym (captured_refused f D E (λ z. omega arith))
