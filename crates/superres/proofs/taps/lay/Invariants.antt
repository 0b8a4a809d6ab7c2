-- The run so far is the stamp of i taps.
use Prim.Native.Nat.{◌/◌, ◌%◌}
use mathlib.Core.Path.{◌≡◌}
use Rattle.laws.specs.Runs.{stamp}
use Rattle.standard.specs.UpscaleFilter.{up_tap}
use Rattle.superres.proofs.taps.lay.Given as goal

abbrev pub invariant-loop-i : goal.invariant-loop-i
invariant-loop-i l = l.t ≡ stamp (λ k. up_tap (k / 8) (k % 8)) 0 l.i l.initial.t
