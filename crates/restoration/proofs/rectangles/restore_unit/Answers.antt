-- The callees name the rectangle and its unit, so what is painted is what the unit of each sample there restores.
use Prim.Native.Nat.{ℕ, ◌+◌, ◌*◌, ◌≤◌}
use mathlib.Core.Path.{◌≡◌, sym, ◌∙◌, ap, subst}
use native.Mathlib.Omega.{arith}
use lib.Dec.{T}
use Rattle.laws.specs.Congruence.{ap2}
use Rattle.standard.specs.declared.Geometry.{Geometry}
use Rattle.standard.specs.Stripes as defined
use Rattle.standard.specs.Units.{kind_of, legal_entry}
use Rattle.standard.specs.Refusals.{sub_y_of, plane_width, scratch_need}
use Rattle.standard.proofs.Stripes.{size_of}
use Rattle.units.specs.Legal.{LegalKind}
use Rattle.units.proofs.Legal.{legal_kind}
use Rattle.restoration.proofs.Sizes.{size_small}
use Rattle.restoration.proofs.Units.{sized, entry, entry_in, entry_legal, index_is, index_small, fits, own_rows, unit_painted}
use Rattle.restoration.proofs.rectangles.restore_unit.Goals as goal

-- what the callees answered
module _ (c : goal.After-units-cols) where
  abbrev place : Geometry
  place = c.rectangle_of-g.result

  ec : c.units-cols.result ≡ defined.units (plane_width c.args.f) c.args.f.unit_size
  ec = c.units-cols.ensures ∙ ap (λ (n : ℕ). defined.units n c.args.f.unit_size) c.extent.ensures

  index : place.unit_row * c.units-cols.result + place.unit_col ≡ entry c.requires.asked.0 c.args.k
  index = index_is c.requires.asked.0 c.args.k c.requires.asked.1 c.args.v.w c.args.v.h c.units-cols.result place c.requires.view.0 c.requires.view.1 c.rectangle_of-g.ensures ec

  small : place.unit_row * c.units-cols.result + place.unit_col ≤ 4294836225
  small = index_small c.requires.asked.0 c.args.k c.requires.asked.1 c.args.v.w c.args.v.h c.units-cols.result place c.requires.view.0 c.requires.view.1 c.rectangle_of-g.ensures ec

pub units-cols-requires : goal.units-cols-requires
units-cols-requires c = let z = size_small (size_of (sized c.requires.asked.0)) in (omega (arith, z.0), z.1, omega (arith, c.extent.ensures, c.requires.asked.0.legal.cols_low))

pub overflow_mul-row : goal.overflow_mul-row
overflow_mul-row c = omega (arith, small c)

pub overflow_add-row : goal.overflow_add-row
overflow_add-row c = omega (arith, small c)

pub unit_at-u-requires : goal.unit_at-u-requires
unit_at-u-requires c = let p = c.requires.asked.0 in record { e_in_bounds = omega (arith, entry_in p c.args.k, index c); t = subst (λ (e : ℕ). T (legal_entry c.args.f.plane c.args.table.now e)) (sym (index c)) (entry_legal p c.args.k) }

pub restore_rect-requires : goal.restore_rect-requires
restore_rect-requires c = let s = c.args in let p = c.requires in let a = p.asked.0 in
    let ec = c.units-cols.ensures ∙ ap (λ (n : ℕ). defined.units n s.f.unit_size) c.extent.ensures in
    let index = index_is a s.k p.asked.1 _ _ _ _ p.view.0 p.view.1 c.rectangle_of-g.ensures ec in
    let t = fits a s.k p.asked.1 _ _ _ _ p.view.0 p.view.1 c.rectangle_of-g.ensures ec in record {
      w_in_bounds = (omega (arith, ap2 ◌*◌ p.view.1 p.view.0, p.asked.2), omega (arith, t.room, ap2 (scratch_need (sub_y_of s.f)) p.view.1 p.view.0, a.room), t.wide, t.wide_low, t.high, t.high_low, t.within);
      legal_kind = (subst LegalKind (sym (c.unit_at-u.ensures ∙ ap (kind_of s.table.now) index)) (legal_kind s.f.plane s.table.now (entry a s.k) (entry_legal a s.k)), own_rows a s.k p.asked.1 _ _ _ _ p.view.0 p.view.1 c.rectangle_of-g.ensures ec s.v.source p.stripe);
    }

pub returns : goal.returns
returns c = let s = c.args in let p = c.requires in let a = p.asked.0 in
    let ec = c.units-cols.ensures ∙ ap (λ (n : ℕ). defined.units n s.f.unit_size) c.extent.ensures in
    let index = index_is a s.k p.asked.1 _ _ _ _ p.view.0 p.view.1 c.rectangle_of-g.ensures ec in
    c.restore_rect.ensures ∙ unit_painted a s.k p.asked.1 _ _ _ _ p.view.0 p.view.1 c.rectangle_of-g.ensures ec s.v.depth _ s.v.inside.now s.v.beside.now s.v.source s.out.now (c.unit_at-u.ensures ∙ ap (kind_of s.table.now) index)
