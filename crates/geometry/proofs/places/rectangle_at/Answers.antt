-- The index is below the count, so that its stripe starts in the plane and its column before the edge; each field is its definition.
use native.Mathlib.Omega.{arith}
use mathlib.Core.Path.{◌∙◌, ap, refl}
use Prim.Native.Nat.{◌-◌, ◌*◌, ◌%◌, min}
use mir.Syntax.{w32}
use Rattle.laws.specs.Congruence.{ap2}
use Rattle.laws.specs.ReadBack.{returned}
use Rattle.laws.specs.SignedCode.{Expression, safe, is_exact}
use Rattle.geometry.proofs.Laws.{Indexed, indexed, last_one, placed, rectangle_by}
use Rattle.geometry.proofs.places.rectangle_at.Goals as goal

found : (c : goal.After-units-cols) → let a = c.args in Indexed a.sub_y a.size a.height a.width c.units-cols.result a.index
found c = indexed _ _ _ _ _ _ c.units-cols.ensures c.requires.legal c.requires.index_bound

-- from the last place back to where the columns are counted
abbrev columns : goal.After-stripe_end_y → goal.After-units-cols
columns c = c.before.before.before.before.before.before.before

abbrev end_x : goal.After-stripe_end_y → Expression
end_x c = last_one _ (columns c).requires.legal.wide

abbrev end_y : goal.After-stripe_end_y → Expression
end_y c = last_one _ (columns c).requires.legal.high

pub nonzero_div-s : goal.nonzero_div-s
nonzero_div-s c = (found c).some

pub nonzero_rem-c : goal.nonzero_rem-c
nonzero_rem-c c = (found c).some

pub overflow_mul-x : goal.overflow_mul-x
overflow_mul-x c = omega (arith, (found c).fits)

pub stripe_start-y-requires : goal.stripe_start-y-requires
stripe_start-y-requires c = (c.requires.legal.half, omega (arith, (found c).stripe))

pub unit_row-requires : goal.unit_row-requires
unit_row-requires c = let p = c.requires.legal in (p.half, omega (arith, (found c.before).stripe), p.unit, p.small, omega (arith, p.high))

pub right-requires : goal.right-requires
right-requires c = let p = c.requires.legal in (p.unit, p.small, omega (arith, p.wide), (found c.before.before).column)

pub overflow_sub-result : goal.overflow_sub-result
overflow_sub-result c = omega (arith, (found c.before.before.before).spans, c.right.ensures)

pub stripe_stop-requires : goal.stripe_stop-requires
stripe_stop-requires c = let k = c.before.before.before in (k.requires.legal.half, omega (arith, (found k).stripe))

pub overflow_sub-result-2 : goal.overflow_sub-result-2
overflow_sub-result-2 c = let k = c in
    omega (arith, (found k.before.before.before.before.before).starts, c.min.ensures, c.stripe_stop.ensures, k.stripe_start-y.ensures)

pub stripe_start_y-requires : goal.stripe_start_y-requires
stripe_start_y-requires c = let k = c.before.before.before.before.before in (k.requires.legal.half, omega (arith, (found k).stripe))

pub stripe_end_y-requires : goal.stripe_end_y-requires
stripe_end_y-requires c = let k = c.before.before.before.before.before.before in (k.requires.legal.half, omega (arith, (found k).stripe))

pub overflow_sub-result-3 : goal.overflow_sub-result-3
overflow_sub-result-3 c = safe w32 (end_x c) tt

pub overflow_sub-result-4 : goal.overflow_sub-result-4
overflow_sub-result-4 c = safe w32 (end_y c) tt

pub returns : goal.returns
returns c = let k = columns c in
    let a = k.args in
    let start = c.stripe_start-y.ensures in
    placed c.unit_row.ensures refl refl start
    (ap (λ r. r - a.index % k.units-cols.result * a.size) c.right.ensures)
    (ap2 (λ m s. m - s) (c.min.ensures ∙ ap (min a.height) c.stripe_stop.ensures) start)
    (returned w32 c.stripe_start_y.type_inv c.stripe_start_y.ensures)
    (returned w32 c.stripe_end_y.type_inv c.stripe_end_y.ensures)
    (is_exact w32 (end_x c) tt) (is_exact w32 (end_y c) tt)
    ∙ rectangle_by a.sub_y a.size a.height a.width k.units-cols.result a.index k.units-cols.ensures
