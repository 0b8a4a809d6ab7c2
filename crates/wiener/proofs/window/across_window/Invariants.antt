-- The area so far is the rectangle of i rows; one more call makes it i + 1.
use Prim.Native.Nat.{◌+◌, ◌*◌}
use mathlib.Core.Path.{◌≡◌}
use Rattle.laws.specs.Rows.{rows}
use Rattle.wiener.specs.Passes.{across_at}
use Rattle.wiener.proofs.window.across_window.Given as goal

abbrev pub invariant-loop-i : goal.invariant-loop-i
invariant-loop-i l = l.s ≡ rows (λ i x. across_at l.d l.taps.t l.win (l.at + i * l.stride + x)) 0 l.w l.w l.i l.initial.s
