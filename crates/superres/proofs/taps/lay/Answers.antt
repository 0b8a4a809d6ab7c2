-- The run so far is the stamp of i taps.
use Prim.Native.Nat.{◌/◌, ◌%◌}
use mathlib.Core.Path.{◌≡◌, ◌∙◌, ap}
use mathlib.Core.List.{[]}
use native.Mathlib.Omega.{arith}
use lib.ListN.{get_or}
use lib.IntN.{pos}
use mir.Syntax.{w16}
use mir.Val.{to_z, of_z}
use mir.Facts.{to_z-of_z}
use Rattle.laws.specs.Runs.{stamp_none, stamp_more}
use Rattle.laws.specs.Sizes.{fits_abs}
use Rattle.standard.specs.UpscaleFilter.{up_tap}
use Rattle.superres.proofs.Rows.{tap_small}
use Rattle.superres.proofs.taps.lay.Goals as goal

pub loop-i-init : goal.loop-i-init
loop-i-init c = stamp_none _ _ _

pub loop-i-preserved : goal.loop-i-preserved
unfolding up_tap
loop-i-preserved c = stamp_more _ _ _ _ _ _ _ c.loop-i.invariant (omega arith)
    (ap (λ T. to_z w16 (of_z w16 (get_or (get_or T (c.loop-i.i / 8) []) (c.loop-i.i % 8) (pos 0)))) c.requires.1 ∙ to_z-of_z {w = w16} (fits_abs 128 (tap_small (c.loop-i.i / 8) (c.loop-i.i % 8) (omega arith) (omega arith)) tt))

pub returns : goal.returns
returns c = let e : c.loop-i.i ≡ 512 = omega arith in rw e at c.loop-i.invariant
