-- The area so far is the rectangle of i rows; one more call makes it i + 1.
use Prim.Native.Nat.{◌+◌}
use mathlib.Core.Path.{refl, ◌∙◌, ap}
use native.Mathlib.Omega.{arith}
use native.Mathlib.Nat.{mul-le-mul_right}
use lib.ListN.{length}
use Rattle.laws.specs.Bounds.{samples_part}
use Rattle.laws.specs.Index.{row_le}
use Rattle.laws.specs.Rows.{rows_none, rows_more, rows_length}
use Rattle.wiener.proofs.window.across_window.Goals as goal

pub loop-i-init : goal.loop-i-init
loop-i-init c = rows_none _ _ _ _ _

pub across_row-requires : goal.across_row-requires
across_row-requires c = let s = c.args in let i = c.loop-i.i in let p = c.requires in let far = mul-le-mul_right {m = i} {n = s.h + 5} s.stride (omega arith) in record {
  n_in_bounds = (omega (arith, row_le {y = i} {h = s.h + 6} s.w (omega arith), ap length c.loop-i.invariant ∙ rows_length _ _ _ _ _ _), omega arith, omega arith);
  samples = samples_part _ _ p.samples (omega arith) (omega arith);
}

pub loop-i-preserved : goal.loop-i-preserved
loop-i-preserved c = rows_more _ _ _ _ _ _ _ _ _ _ c.across_row.ensures c.loop-i.invariant (omega arith) (λ k h. refl)
