-- The first sample out of range lies before the end exactly where there is one.
use mathlib.Core.Path.{sym, ◌∙◌, ap}
use Prim.Native.Nat.{ℕ}
use lib.Dec.{ltb}
use lib.ListN.{length}
use Rattle.units.specs.First.{no15_first}
use Rattle.units.proofs.samples.out_of_range.Goals as goal

pub returns : goal.returns
returns c = let a = c.args in ap (λ (k : ℕ). ltb k (length a.s.now)) c.first_outside.ensures ∙ sym (no15_first a.depth a.s.now)
