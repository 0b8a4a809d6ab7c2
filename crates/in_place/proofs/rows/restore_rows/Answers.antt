-- The stripe's rectangles, painted from the definition's source, are its part of the slice.
use Prim.Native.Nat.{ℕ}
use mathlib.Core.Path.{◌≡◌, ◌∙◌, ap}
use native.Mathlib.Omega.{arith}
use Rattle.standard.specs.declared.Frame.{Frame}
use Rattle.standard.specs.Refusals.{sub_y_of}
use Rattle.fetch.specs.declared.Source.{Source}
use Rattle.fetch.specs.Source.{stripe_source}
use Rattle.stripe_tests.proofs.Laws.{legal, rows_of}
use Rattle.in_place.proofs.Stripe.{asked, stripe_asked, stripe_written}
use Rattle.in_place.proofs.rows.restore_rows.Goals as goal

-- the stripe's source, by what the callees answered
source_is : (own s : ℕ) (f : Frame) (r : Source) → r ≡ stripe_source own s → own ≡ sub_y_of f → r ≡ stripe_source (sub_y_of f) s
source_is own s f r e o = e ∙ ap (λ (n : ℕ). stripe_source n s) o

pub extent-w-requires : goal.extent-w-requires
extent-w-requires c = let l = legal c.requires.stripe_passed.0.numbered in (l.sub_x, l.wide)

pub extent-h-requires : goal.extent-h-requires
extent-h-requires c = let l = legal c.requires.stripe_passed.0.numbered in (l.sub_y, l.high)

pub stripe_source-source-requires : goal.stripe_source-source-requires
stripe_source-source-requires c = let p = c.requires.stripe_passed.0 in (omega (arith, c.sub_of.ensures, (legal p.numbered).own_y), (rows_of p.numbered c.args.s p.there).few)

pub invariant_of-v : goal.invariant_of-v
invariant_of-v c = let p = c.requires.stripe_passed in
    let b = stripe_asked p.0 p.1 c.args.copy.now c.requires.copied _ (source_is _ _ c.args.f _ c.stripe_source-source.ensures c.sub_of.ensures) _ c.depth_of-depth.ensures _ _ c.extent-w.ensures c.extent-h.ensures in
    record { fetchable = b.1; sides = b.2 }

pub restore_rectangles-requires : goal.restore_rectangles-requires
restore_rectangles-requires c = let p = c.requires.stripe_passed in
    let b = stripe_asked p.0 p.1 c.args.copy.now c.requires.copied _ (source_is _ _ c.args.f _ c.stripe_source-source.ensures c.sub_of.ensures) _ c.depth_of-depth.ensures _ _ c.extent-w.ensures c.extent-h.ensures in
    record { asked = (asked p.0 p.1, p.0.there, omega (arith, p.0.long)); stripe = b.0; view = (c.extent-w.ensures, c.extent-h.ensures) }

pub returns : goal.returns
returns c = let p = c.requires.stripe_passed in
    stripe_written p.0 p.1 c.args.copy.now c.requires.copied _ (source_is _ _ c.args.f _ c.stripe_source-source.ensures c.sub_of.ensures) _ c.depth_of-depth.ensures _ c.restore_rectangles.ensures
