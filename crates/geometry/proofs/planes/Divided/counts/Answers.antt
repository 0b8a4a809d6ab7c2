-- Each count is the definition at the plane's own numbers; the product fits.
use native.Mathlib.Omega.{arith}
use mathlib.Core.Path.{◌∙◌, ap}
use Prim.Native.Nat.{ℕ, ◌*◌}
use Rattle.laws.specs.Congruence.{ap2, ap4}
use Rattle.standard.specs.declared.Counts.{Counts}
use Rattle.geometry.proofs.Laws.{count_small}
use Rattle.geometry.proofs.Tests.{divided}
use Rattle.standard.specs.Stripes.{stripes, units, rectangles}
use Rattle.standard.specs.Calls.{counts_of}
use Rattle.geometry.proofs.planes.Divided.counts.Goals as goal

abbrev made : ℕ → ℕ → ℕ → ℕ → Counts
made r c s n = record { unit_rows = r; unit_cols = c; stripes = s; rectangles = n }

pub units-cols-requires : goal.units-cols-requires
units-cols-requires c = let p = (divided c.args.self).legal in (p.unit, p.small, omega (arith, c.width.ensures.bound))

pub units-requires : goal.units-requires
units-requires c = let p = (divided c.args.self).legal in (p.unit, p.small, omega (arith, c.height-2.ensures.bound))

pub overflow_mul-result : goal.overflow_mul-result
overflow_mul-result c = omega (arith, count_small _ _ _ _ (divided c.args.self).legal (c.stripes-lines.ensures ∙ ap2 stripes c.sub_y.ensures.value c.height.ensures.value) (c.units-cols.ensures ∙ ap (λ w. units w c.args.self.plane.frame.unit_size) c.width.ensures.value))

pub returns : goal.returns
unfolding counts_of rectangles
returns c = let l = c.stripes-lines.ensures ∙ ap2 stripes c.sub_y.ensures.value c.height.ensures.value in
    let m = c.units-cols.ensures ∙ ap (λ w. units w c.args.self.plane.frame.unit_size) c.width.ensures.value in
    ap4 made (c.units.ensures ∙ ap (λ h. units h c.args.self.plane.frame.unit_size) c.height-2.ensures.value) m l (ap2 (λ a b. a * b) l m)
