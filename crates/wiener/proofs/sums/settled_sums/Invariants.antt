-- The row so far is the stamp of x values; one more store makes it x + 1.
use Prim.Native.Nat.{◌+◌}
use mathlib.Core.Path.{◌≡◌}
use mathlib.Core.List.{map}
use Rattle.laws.specs.Runs.{stamp}
use Rattle.wiener.specs.Passes.{seven, settled}
use Rattle.wiener.proofs.sums.settled_sums.Given as goal

abbrev pub invariant-loop-x : goal.invariant-loop-x
invariant-loop-x g l = map g.U.Half.value l.dst ≡ stamp (λ k. settled l.a (seven l.tr k (map g.T.Half.value l.s) (l.from + k) l.st)) l.to l.x (map g.U.Half.value l.initial.dst)
