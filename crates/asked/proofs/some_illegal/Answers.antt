-- The first illegal entry against the number of entries is test 11.
use Prim.Native.Nat.{ℕ, ◌/◌}
use mathlib.Core.Path.{sym, ◌∙◌, ap}
use lib.Dec.{ltb}
use lib.ListN.{length}
use Rattle.units.specs.First.{no11_first}
use Rattle.asked.proofs.some_illegal.Goals as goal

pub returns : goal.returns
returns c = let a = c.args in ap (λ (r : ℕ). ltb r (length a.table.now / 10)) c.first_illegal.ensures ∙ sym (no11_first a.plane a.table.now)
