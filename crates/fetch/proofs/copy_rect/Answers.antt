-- Row by row: the rows so far are the rectangle's, and one more run makes it one more row.
use Rattle.std.proofs.Common.{ap, ℕ, ◌+◌, ◌*◌, pos, get_or, arith, add_assoc}
use native.Mathlib.Nat.{add-mul}
use Rattle.laws.specs.Rows.{rows_none, rows_more}
use Rattle.fetch.proofs.copy_rect.Goals as goal

pub loop-y-init : goal.loop-y-init
loop-y-init c = rows_none _ _ _ _ _

pub loop-y-preserved : goal.loop-y-preserved
loop-y-preserved c =
    let s = c.args in
    rows_more _ _ _ _ _ _ _ _ _ _ c.copy_run.ensures c.loop-y.invariant (omega (arith, add-mul s.r.y c.loop-y.y s.w))
    (λ k h. ap (λ (n : ℕ). get_or s.src.now n (pos 0)) (add_assoc ((s.at + c.loop-y.y) * s.w) s.r.x k))
