-- The result so far is the rectangle of i rows; one more call makes it i + 1.
use Prim.Native.Nat.{◌+◌, ◌*◌}
use mathlib.Core.Path.{◌≡◌}
use Rattle.laws.specs.Rows.{rows}
use Rattle.wiener.specs.Passes.{down_at}
use Rattle.wiener.proofs.window.down_window.Given as goal

abbrev pub invariant-loop-i : goal.invariant-loop-i
invariant-loop-i l = l.out ≡ rows (λ i x. down_at l.d l.taps.t l.s (i * l.w + x) l.w) l.to l.stride l.w l.i l.initial.out
