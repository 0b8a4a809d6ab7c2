-- Rectangle after rectangle: those so far are painted, and one more makes it one more.
use Prim.Native.Nat.{ℕ, ◌+◌, ◌*◌, ◌≤◌}
use mathlib.Core.Path.{◌≡◌, sym, ◌∙◌, ap, subst}
use native.Mathlib.Omega.{arith}
use lib.IntN.{pos}
use Rattle.laws.specs.Cover.{Painted, painted_none, painted_more}
use Rattle.standard.specs.declared.Frame.{Frame}
use Rattle.standard.specs.Stripes as defined
use Rattle.standard.specs.Refusals.{sub_y_of, plane_height, plane_width}
use Rattle.standard.proofs.Stripes.{size_of}
use Rattle.standard.proofs.Rectangles.{index_of, cover}
use Rattle.restoration.specs.Asked.{Asked, Stripe}
use Rattle.restoration.specs.Seen.{unit_seen}
use Rattle.restoration.proofs.Sizes.{size_small}
use Rattle.restoration.proofs.Units.{sized, in_stripe, below_all, end_small}
use Rattle.restoration.proofs.rectangles.restore_rectangles.Goals.{After-units-cols}
use Rattle.restoration.proofs.rectangles.restore_rectangles.Goals as goal

-- the unit columns, and the index after the stripe's last
columns : (f : Frame) {w n : ℕ} → w ≡ plane_width f → n ≡ defined.units w f.unit_size → n ≡ defined.units (plane_width f) f.unit_size
columns f p q = q ∙ ap (λ (n : ℕ). defined.units n f.unit_size) p

ends : (c : After-units-cols) → c.args.at * c.units-cols.result + c.units-cols.result ≤ 4294836225
ends c = omega (arith, end_small c.requires.asked.0 c.args.at c.units-cols.result (columns c.args.f c.extent.ensures c.units-cols.ensures) c.requires.asked.1)

pub units-cols-requires : goal.units-cols-requires
units-cols-requires c = let p = c.requires.asked.0 in let z = size_small (size_of (sized p)) in (omega (arith, z.0), z.1, omega (arith, c.extent.ensures, p.legal.cols_low))

pub overflow_mul-first : goal.overflow_mul-first
overflow_mul-first c = omega (arith, ends c)

pub overflow_add-k-end : goal.overflow_add-k-end
overflow_add-k-end c = omega (arith, ends c)

pub loop-k-init : goal.loop-k-init
loop-k-init c = painted_none _ _ _ _ _ _ _

pub restore_unit-requires : goal.restore_unit-requires
restore_unit-requires c = let s = c.args in let p = c.requires.asked in let e = columns s.f c.extent.ensures c.units-cols.ensures in record {
  asked = (subst (Asked s.f s.table.now) (sym c.loop-k.auto.s) p.0, below_all s.f s.at c.units-cols.result _ e p.1 (omega arith), omega (arith, p.2, c.loop-k.invariant.long));
  stripe = subst (λ (n : ℕ). Stripe s.f n s.v.source) (sym (in_stripe s.f s.at c.units-cols.result _ e (omega arith) (omega arith))) c.requires.stripe;
  view = c.requires.view;
}

pub loop-k-preserved : goal.loop-k-preserved
loop-k-preserved c = let s = c.args in let p = c.requires.asked in let l = p.0.legal in
    painted_more _ _ _ _ _ _ _ (cover (sized p.0) (plane_height s.f) (plane_width s.f) l.rows l.cols) c.loop-k.k _ _
    (below_all s.f s.at c.units-cols.result c.loop-k.k (columns s.f c.extent.ensures c.units-cols.ensures) p.1 c.loop-k-test.true) c.loop-k.auto.k p.2 c.loop-k.invariant c.restore_unit.ensures

pub returns : goal.returns
returns c = let s = c.args in
    subst (λ (n : ℕ). Painted (index_of (sub_y_of s.f) s.f.unit_size (plane_width s.f)) (plane_width s.f) (plane_height s.f) (unit_seen s.f s.table.now s.v) (pos 0) (s.at * n) (s.at * n + n) s.out.now c.loop-k.out) (columns s.f c.extent.ensures c.units-cols.ensures)
    (subst (λ (n : ℕ). Painted (index_of (sub_y_of s.f) s.f.unit_size (plane_width s.f)) (plane_width s.f) (plane_height s.f) (unit_seen s.f s.table.now s.v) (pos 0) (s.at * c.units-cols.result) n s.out.now c.loop-k.out) (omega arith) c.loop-k.invariant)
