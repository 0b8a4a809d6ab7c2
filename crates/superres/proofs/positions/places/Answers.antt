-- The running sum is the position of column x0 + x; each turn stores its place and its tap row.
use Prim.Native.Nat.{ℕ, ◌+◌, ◌*◌, ◌-◌, ◌/◌, ◌%◌}
use mathlib.Core.Path.{◌≡◌, ◌∙◌, ap}
use native.Mathlib.Omega.{arith}
use Rattle.laws.specs.Runs.{stamp_none, stamp_more}
use Rattle.superres.proofs.positions.places.Goals as goal

pub loop-x-init : goal.loop-x-init
loop-x-init c = (omega arith, stamp_none _ _ _, stamp_none _ _ _)

pub loop-x-preserved : goal.loop-x-preserved
loop-x-preserved c =
    let a = c.args in
    let i = c.loop-x.invariant in
    (omega (arith, i.0), stamp_more _ _ _ _ _ _ _ i.1 (omega arith) (c.place_of.ensures ∙ ap (λ (n : ℕ). n / 16384 - (a.p.start + a.x0 * a.p.step) / 16384) i.0), stamp_more _ _ _ _ _ _ _ i.2 (omega arith) (c.row_of.ensures ∙ ap (λ (n : ℕ). n % 16384 / 256 * 8) i.0))

pub returns : goal.returns
returns c = let e : c.loop-x.x ≡ c.args.n = omega arith in record { ps_after = rw e at c.loop-x.invariant.1; fs_after = rw e at c.loop-x.invariant.2 }
