-- Stripe after stripe: those so far hold the restored samples, and one more makes it one more.
use mathlib.Core.List.{List}
use lib.IntN.{ℤ}
use Rattle.standard.specs.declared.Frame.{Frame}
use Prim.Native.Nat.{ℕ, ◌≤◌, ◌<◌}
use mathlib.Core.Path.{◌≡◌, sym, ◌∙◌, ap, subst}
use native.Mathlib.Omega.{arith}
use Rattle.laws.specs.Congruence.{ap2}
use Rattle.standard.specs.Stripes as defined
use Rattle.standard.specs.Refusals.{sub_y_of, plane_height}
use Rattle.geometry.proofs.Laws.{stripes_small}
use Rattle.fetch.specs.declared.Source.{Source}
use Rattle.fetch.specs.Source.{whole_source}
use Rattle.restoration.specs.Asked.{Asked}
use Rattle.restoration.proofs.Whole.{stripe_asked, stripe_added, whole_painted, none_painted}
use Rattle.restoration.proofs.planes.restore_stripes.Goals as goal

-- the stripes of a plane are few
few : (f : Frame) {table : List ℤ} {scratch : ℕ} → Asked f table scratch → defined.stripes (sub_y_of f) (plane_height f) ≤ 2049
few f p = stripes_small (sub_y_of f) (plane_height f) p.legal.own_y (omega (arith, p.legal.rows_low))

-- a stripe's source, by what the callees answered
source_is : (own at : ℕ) (f : Frame) (r : Source) → r ≡ whole_source own at → own ≡ sub_y_of f → r ≡ whole_source (sub_y_of f) at
source_is own at f r e o = e ∙ ap (λ (n : ℕ). whole_source n at) o

pub loop-at-init : goal.loop-at-init
loop-at-init c = none_painted _ _ _ _ _ _ _

pub whole_source-source-requires : goal.whole_source-source-requires
whole_source-source-requires c = (omega (arith, c.sub_of-own.ensures, c.requires.asked.0.legal.own_y), omega (arith, c.stripes-n.ensures ∙ ap2 defined.stripes c.sub_of-own.ensures c.extent-rows.ensures, few c.args.f c.requires.asked.0, c.loop-at-test.true))

pub invariant_of-v : goal.invariant_of-v
invariant_of-v c = let p = c.requires in let n = c.stripes-n.ensures ∙ ap2 defined.stripes c.sub_of-own.ensures c.extent-rows.ensures in
    let b = stripe_asked p.asked.0 c.args.deblocked.now c.args.cdef.now c.loop-at.at (omega (arith, n, c.loop-at-test.true)) _ (source_is _ _ c.args.f _ c.whole_source-source.ensures c.sub_of-own.ensures) _ c.depth_of-depth.ensures _ _ c.extent-w.ensures c.extent-rows.ensures p.asked.2 p.asked.3 p.samples.0 p.samples.1 in
    record { fetchable = b.1; sides = b.2 }

pub restore_rectangles-requires : goal.restore_rectangles-requires
restore_rectangles-requires c = let p = c.requires in let n = c.stripes-n.ensures ∙ ap2 defined.stripes c.sub_of-own.ensures c.extent-rows.ensures in
    let turn : c.loop-at.at < defined.stripes (sub_y_of c.args.f) (plane_height c.args.f) = omega (arith, n, c.loop-at-test.true) in
    let b = stripe_asked p.asked.0 c.args.deblocked.now c.args.cdef.now c.loop-at.at turn _ (source_is _ _ c.args.f _ c.whole_source-source.ensures c.sub_of-own.ensures) _ c.depth_of-depth.ensures _ _ c.extent-w.ensures c.extent-rows.ensures p.asked.2 p.asked.3 p.samples.0 p.samples.1 in
    record { asked = (subst (Asked c.args.f c.args.table.now) (sym c.loop-at.auto.s) p.asked.0, turn, omega (arith, p.asked.1, c.loop-at.invariant.long)); stripe = b.0; view = (c.extent-w.ensures, c.extent-rows.ensures) }

pub loop-at-preserved : goal.loop-at-preserved
loop-at-preserved c = let p = c.requires in let n = c.stripes-n.ensures ∙ ap2 defined.stripes c.sub_of-own.ensures c.extent-rows.ensures in
    stripe_added p.asked.0 c.args.deblocked.now c.args.cdef.now c.loop-at.at (omega (arith, n, c.loop-at-test.true)) _ (source_is _ _ c.args.f _ c.whole_source-source.ensures c.sub_of-own.ensures) _ c.depth_of-depth.ensures c.args.out.now c.loop-at.out _ c.loop-at.invariant c.restore_rectangles.ensures

pub returns : goal.returns
returns c = whole_painted c.requires.asked.0 _ _ _ _ _ (omega (arith, c.stripes-n.ensures ∙ ap2 defined.stripes c.sub_of-own.ensures c.extent-rows.ensures, c.loop-at-test.false)) c.requires.asked.1 c.loop-at.invariant
