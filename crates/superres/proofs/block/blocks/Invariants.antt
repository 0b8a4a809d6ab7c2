-- The blocks before k are done, the other columns are as they were.
use Prim.Native.Nat.{◌+◌, ◌*◌, ◌/◌}
use lib.ListN.{get_or}
use lib.IntN.{pos}
use Rattle.laws.specs.Cover.{Painted}
use Rattle.superres.specs.Scaled.{scaled}
use Rattle.superres.proofs.block.blocks.Given as goal

abbrev pub invariant-loop-k : goal.invariant-loop-k
invariant-loop-k l =
    let p = l.s.p in
    Painted (λ y x. x / 1024) p.width p.rows (λ y. scaled p.top p.start p.step p.last (λ c. get_or l.s.src.now (y * p.cols + c) (pos 0))) (pos 0) 0 l.k l.initial.out l.out
