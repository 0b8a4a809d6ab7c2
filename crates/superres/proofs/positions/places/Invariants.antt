-- The running sum is the position of column x0 + x; each turn stores its place and its tap row.
use Prim.Native.Nat.{◌+◌, ◌*◌, ◌-◌}
use mathlib.Core.Path.{◌≡◌}
use Rattle.laws.specs.Runs.{stamp}
use Rattle.superres.specs.Scaled.{place_at, phase_at}
use Rattle.superres.proofs.positions.places.Given as goal

abbrev pub invariant-loop-x : goal.invariant-loop-x
invariant-loop-x l = (l.at ≡ l.p.start + (l.x0 + l.x) * l.p.step) × (l.ps ≡ stamp (λ k. place_at l.p.start l.p.step (l.x0 + k) - l.q0) 0 l.x l.initial.ps) × (l.fs ≡ stamp (λ k. phase_at l.p.start l.p.step (l.x0 + k) * 8) 0 l.x l.initial.fs)
