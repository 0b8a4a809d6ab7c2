-- The column by the subsampling: there is one of each.
use Prim.Native.Nat.{ℕ, zero, suc, ◌+◌, ◌*◌, ◌/◌, ◌^◌, ◌≤◌, ◌<◌}
use native.Mathlib.Omega.{arith}
use Rattle.superres.proofs.plan.last_col.Goals as goal

some_col : (frame n : ℕ) → 0 < frame → n ≤ 1 → 1 ≤ 4 * (2 * ((frame + 7) / 8) / 2 ^ n)
some_col frame zero h p = omega arith
some_col frame (suc zero) h p = omega arith
some_col frame (suc (suc n)) h p = absurd (omega arith)

pub overflow_sub-result : goal.overflow_sub-result
overflow_sub-result c = some_col c.args.frame c.args.sub_x c.requires.0 c.requires.2
