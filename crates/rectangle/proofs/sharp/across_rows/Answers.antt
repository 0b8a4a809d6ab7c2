-- Row by row: the rows so far hold the middle values, and one more row makes it one more.
use Prim.Native.Nat.{ℕ, ◌+◌}
use mathlib.Core.Path.{◌≡◌, sym, ◌∙◌, ap, subst}
use native.Mathlib.Omega.{arith}
use lib.ListN.{length}
use Rattle.laws.specs.Index.{row_le}
use Rattle.laws.specs.Bounds.{Samples}
use Rattle.laws.specs.Rows.{rows_none, rows_more, rows_length}
use Rattle.standard.specs.Depths.{largest}
use Rattle.rectangle.proofs.SharpLaws.{handed_long, handed_value}
use Rattle.rectangle.proofs.sharp.across_rows.Goals as goal

pub loop-k-init : goal.loop-k-init
loop-k-init c = rows_none _ _ _ _ _

pub middle_row-requires-clause-n_in_bounds : goal.middle_row-requires-clause-n_in_bounds
middle_row-requires-clause-n_in_bounds c = let s = c.args in let long : length c.row-row.result.now ≡ s.v.w = handed_long s.v.source c.args.v.fetchable.reach s.r.y c.loop-k.k c.args.v.sides.high c.row-row.ensures c.near-y.ensures in
    (omega (arith, row_le {y = c.loop-k.k} {h = s.r.h + 6} s.r.w (omega arith), ap length c.loop-k.invariant ∙ rows_length _ _ _ _ _ _), omega arith, omega arith, omega arith, omega arith)

pub middle_row-requires-clause-samples : goal.middle_row-requires-clause-samples
middle_row-requires-clause-samples c = let s = c.args in
    subst (λ (n : ℕ). Samples (largest s.v.depth) 0 n c.row-row.result.now) (sym (handed_long s.v.source c.args.v.fetchable.reach s.r.y c.loop-k.k c.args.v.sides.high c.row-row.ensures c.near-y.ensures)) (subst (Samples (largest s.v.depth) 0 s.v.w) (sym c.row-row.ensures) (c.args.v.fetchable.legal c.near-y.result (omega (arith, c.near-y.ensures))))

pub loop-k-preserved : goal.loop-k-preserved
loop-k-preserved c = let s = c.args in rows_more _ _ _ _ _ _ _ _ _ _ c.middle_row.ensures c.loop-k.invariant (omega arith)
    (λ x h. handed_value s.v.depth s.taps.now.t s.v.inside.now s.v.beside.now s.v.w s.v.h s.v.source s.r.x s.r.y c.loop-k.k _ _ c.row-row.ensures c.near-y.ensures (handed_long s.v.source c.args.v.fetchable.reach s.r.y c.loop-k.k c.args.v.sides.high c.row-row.ensures c.near-y.ensures) x)
