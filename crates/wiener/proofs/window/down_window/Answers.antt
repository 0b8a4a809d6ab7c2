-- The result so far is the rectangle of i rows; one more call makes it i + 1.
use Prim.Native.Nat.{◌+◌, ◌*◌, ◌≤◌}
use mathlib.Core.Path.{refl, ◌∙◌, ap}
use native.Mathlib.Omega.{arith}
use native.Mathlib.Nat.{mul-le-mul_right, add-mul}
use lib.ListN.{length}
use Rattle.laws.specs.Index.{row_le}
use Rattle.laws.specs.Rows.{rows_none, rows_more, rows_length}
use Rattle.wiener.proofs.SumLaws.{halves_part}
use Rattle.wiener.proofs.window.down_window.Goals as goal

pub loop-i-init : goal.loop-i-init
loop-i-init c = rows_none _ _ _ _ _

pub down_row-requires : goal.down_row-requires
down_row-requires c = let s = c.args in let i = c.loop-i.i in let p = c.requires in
    let far : i * s.w + 7 * s.w ≤ (s.h + 6) * s.w = omega (arith, mul-le-mul_right {m = i + 7} {n = s.h + 6} s.w (omega arith), add-mul i 7 s.w) in record {
      n_in_bounds = (omega (arith, row_le {y = i} {h = s.h} s.stride (omega arith), ap length c.loop-i.invariant ∙ rows_length _ _ _ _ _ _), omega arith, omega arith);
      halves = halves_part _ _ p.halves (omega arith) far;
    }

pub loop-i-preserved : goal.loop-i-preserved
loop-i-preserved c = rows_more _ _ _ _ _ _ _ _ _ _ c.down_row.ensures c.loop-i.invariant (omega arith) (λ k h. refl)
