-- The run so far is the stamp of z values of a2; all 256 are the listing.
use mathlib.Core.Path.{◌≡◌}
use lib.IntN.{pos}
use Rattle.laws.specs.Runs.{stamp}
use Rattle.standard.specs.SelfGuided.{a2_of}
use Rattle.boxes.proofs.table.table.Given as goal

abbrev pub invariant-loop-z : goal.invariant-loop-z
invariant-loop-z l = l.tab ≡ stamp (λ k. pos (a2_of k)) 0 l.z l.initial.tab
