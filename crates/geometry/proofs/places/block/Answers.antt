-- Each field is its definition: the leaves ensure theirs, and the plane's ends fit.
use mathlib.Core.Path.{refl}
use mir.Syntax.{w32}
use Rattle.laws.specs.ReadBack.{returned}
use Rattle.laws.specs.SignedCode.{Expression, safe, is_exact}
use Rattle.geometry.proofs.Laws.{last_one, placed}
use Rattle.standard.specs.Stripes.{block, unit_col_of}
use Rattle.geometry.proofs.places.block.Goals as goal

abbrev end_x : goal.After-stripe_end_y → Expression
end_x c = last_one _ c.requires.legal.wide

abbrev end_y : goal.After-stripe_end_y → Expression
end_y c = last_one _ c.requires.legal.high

pub overflow_sub-result : goal.overflow_sub-result
overflow_sub-result c = safe w32 (end_x c) tt

pub overflow_sub-result-2 : goal.overflow_sub-result-2
overflow_sub-result-2 c = safe w32 (end_y c) tt

pub returns : goal.returns
unfolding block unit_col_of
returns c = placed c.unit_col.ensures c.unit_col-2.ensures refl refl
    c.cut.ensures c.cut-2.ensures
    (returned w32 c.stripe_start_y.type_inv c.stripe_start_y.ensures)
    (returned w32 c.stripe_end_y.type_inv c.stripe_end_y.ensures)
    (is_exact w32 (end_x c) tt) (is_exact w32 (end_y c) tt)
