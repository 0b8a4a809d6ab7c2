-- The rows so far are painted; one more row makes y + 1.
use Prim.Native.Nat.{◌+◌, ◌*◌}
use mathlib.Core.Path.{◌≡◌}
use lib.ListN.{get_or}
use lib.IntN.{pos}
use Rattle.laws.specs.Rows.{rows}
use Rattle.superres.specs.Scaled.{scaled}
use Rattle.superres.proofs.block.block_rows.Given as goal

abbrev pub invariant-loop-y : goal.invariant-loop-y
invariant-loop-y l =
    let p = l.k.s.p in
    l.out ≡ rows (λ j x. scaled p.top p.start p.step p.last (λ c. get_or l.k.s.src.now ((0 + j) * p.cols + c) (pos 0)) (l.k.b.x0 + x)) (0 * p.width + l.k.b.x0) p.width l.k.b.n l.y l.initial.out
