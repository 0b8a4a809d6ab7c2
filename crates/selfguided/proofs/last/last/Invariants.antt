-- The rows so far are those of i results; one more call makes one more row.
use Prim.Native.Nat.{◌+◌}
use mathlib.Core.Path.{◌≡◌}
use lib.IntN.{pos}
use Rattle.laws.specs.Rows.{rows}
use Rattle.standard.specs.SelfGuided.{self_guided}
use Rattle.selfguided.proofs.GuidedLaws.{window_at}
use Rattle.selfguided.proofs.last.last.Given as goal

abbrev pub invariant-loop-i : goal.invariant-loop-i
invariant-loop-i l = l.out ≡ rows (λ i j. pos (self_guided l.m.depth (l.odd + i) l.weights (window_at l.s l.w i j))) l.to l.stride l.w l.i l.initial.out
