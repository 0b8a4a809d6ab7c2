-- No second answer and no second output slice keep the promise of `restore_plane`; a refused call leaves the output as it was.
use mathlib.Core.Path.{◌≡◌, sym, ◌∙◌}
use mathlib.Core.List.{List}
use Prim.Native.Nat.{ℕ}
use lib.IntN.{ℤ}
use lib.ListN.{length}
use Rattle.std.specs.Prelude.{Result}
use Rattle.standard.specs.declared.Frame.{Frame}
use Rattle.standard.specs.declared.Refusal.{Refusal}
use Rattle.standard.specs.Answers.{of_restored}
use Rattle.standard.specs.Calls.{plane_answer, plane_out}
use Rattle.standard.specs.Refusals.{first, plane_tests}
use Rattle.standard.proofs.Answers.{restored_once}
use Rattle.restoration.proofs.Answers.{out_refused}

module _ (f : Frame) (table D C out : List ℤ) (scratch : ℕ) where
  pub plane_once : (r s : Result ℕ Refusal) (o p : List ℤ) → of_restored r ≡ plane_answer f table D C (length out) scratch → of_restored s ≡ plane_answer f table D C (length out) scratch →
      o ≡ plane_out f table D C out scratch → p ≡ plane_out f table D C out scratch → (r ≡ s) × (o ≡ p)
  plane_once r s o p a b c d = (restored_once r s (a ∙ sym b), c ∙ sym d)

  pub refused_as_it_was : (first (plane_tests f table D C (length out) scratch) ≡ 0 → ⊥) → plane_out f table D C out scratch ≡ out
  refused_as_it_was h = sym (out_refused f table D C out scratch h)
