-- The run so far is the stamp of z values of a2; all 256 are the listing.
use Prim.Native.Nat.{ℕ}
use mathlib.Core.Path.{◌∙◌, ap}
use native.Mathlib.Omega.{arith}
use lib.IntN.{pos}
use mir.Syntax.{w32}
use Rattle.laws.specs.Lists.{stamp_listing}
use Rattle.laws.specs.ReadBack.{returned}
use Rattle.laws.specs.Runs.{stamp, stamp_none, stamp_more}
use Rattle.standard.specs.SelfGuided.{a2_of}
use Rattle.boxes.proofs.ScaleLaws.{a2_most}
use Rattle.boxes.proofs.table.table.Goals as goal

pub loop-z-init : goal.loop-z-init
loop-z-init c = stamp_none _ _ _

pub signed-requires : goal.signed-requires
signed-requires c = omega (arith, c.a2_of.ensures, a2_most c.loop-z.z)

pub loop-z-preserved : goal.loop-z-preserved
loop-z-preserved c = stamp_more _ _ _ _ _ _ _ c.loop-z.invariant (omega arith) (returned w32 c.signed.type_inv (c.signed.ensures ∙ ap pos c.a2_of.ensures))

pub returns : goal.returns
returns c = c.loop-z.invariant ∙ ap (λ (n : ℕ). stamp (λ k. pos (a2_of k)) 0 n c.args.tab.now) (omega arith) ∙ stamp_listing (pos 0) 256 (λ k. pos (a2_of k)) c.args.tab.now c.requires
