-- The rows so far are painted; one more row makes y + 1.
use Prim.Native.Nat.{ℕ, ◌+◌, ◌*◌}
use mathlib.Core.Path.{◌≡◌, ap}
use native.Mathlib.Omega.{arith}
use lib.ListN.{get_or}
use lib.IntN.{pos}
use Rattle.laws.specs.Rows.{rows_none, rows_more}
use Rattle.superres.specs.Scaled.{scaled}
use Rattle.superres.proofs.block.block_rows.Goals as goal

pub loop-y-init : goal.loop-y-init
loop-y-init c = rows_none _ _ _ _ _

pub loop-y-preserved : goal.loop-y-preserved
loop-y-preserved c =
    let k = c.args.k.now in
    let p = k.s.p in
    rows_more _ _ _ _ _ _ _ _ _ _ c.block_row.ensures c.loop-y.invariant (omega arith) (λ x h. ap (λ (j : ℕ). scaled p.top p.start p.step p.last (λ i. get_or k.s.src.now (j * p.cols + i) (pos 0)) (k.b.x0 + x)) (omega arith))

pub returns : goal.returns
returns c = let e : c.loop-y.y ≡ c.args.k.now.s.p.rows = omega arith in rw e at c.loop-y.invariant
