-- The run so far is the stamp of x samples.
use Prim.Native.Nat.{◌≤◌}
use mathlib.Core.Path.{◌≡◌, ◌∙◌, ap}
use native.Mathlib.Omega.{arith}
use lib.IntN.{ℤ, pos, nat_abs}
use mir.Syntax.{w32}
use mir.Val.{to_z, of_z}
use mir.Facts.{to_z-of_z}
use Rattle.laws.specs.ReadBack.{returned}
use Rattle.laws.specs.Runs.{stamp_none, stamp_more}
use Rattle.laws.specs.Sizes.{fits_abs}
use Rattle.standard.specs.Arithmetic.{round2, clip_to}
use Rattle.superres.proofs.row.settle.Goals as goal

-- a sum is read as it stands
kept : (z : ℤ) → nat_abs z ≤ 4193280 → to_z w32 (of_z w32 z) ≡ z
kept z h = to_z-of_z {w = w32} (fits_abs 4193280 h tt)

pub loop-x-init : goal.loop-x-init
loop-x-init c = stamp_none _ _ _

pub loop-x-preserved : goal.loop-x-preserved
loop-x-preserved c = stamp_more _ _ _ _ _ _ _ c.loop-x.invariant (omega arith) (returned w32 c.settled.type_inv (c.settled.ensures ∙ ap (λ z. pos (clip_to c.args.top (round2 7 z))) (kept _ (c.requires.3.size c.loop-x.x (omega arith) (omega arith)))))

pub returns : goal.returns
returns c = let e : c.loop-x.x ≡ c.args.n = omega arith in rw e at c.loop-x.invariant
