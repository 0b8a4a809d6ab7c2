-- One signed expression over the start: it fits, and it is the definition.
use Prim.Native.Nat.{◌/◌, ◌^◌}
use lib.IntN.{pos}
use Rattle.laws.specs.ReadBack.{returned}
use mir.Syntax.{w32}
use Rattle.laws.specs.SignedCode.{Expression, Nat, Lit, Held, ◌⊕◌, ◌⊝◌, lhs, safe, is_exact}
use Rattle.geometry.proofs.Laws.{start_small, rows_small}
use Rattle.standard.specs.Stripes.{stripe_start_y_of, stripe_end_y_of}
use Rattle.geometry.proofs.stripes.stripe_end_y.Goals as goal

abbrev end : goal.After-stripe_start_y-start → Expression
end c =
    let a = c.args in
    Held _ (stripe_start_y_of a.sub_y a.s) 4194248 (returned w32 c.stripe_start_y-start.type_inv c.stripe_start_y-start.ensures) (start_small a.sub_y a.s c.requires.1)
    ⊕ Nat (64 / 2 ^ a.sub_y) 64 (rows_small a.sub_y) ⊝ Lit (pos 1)

pub overflow_add-result : goal.overflow_add-result
overflow_add-result c = safe w32 (lhs (end c)) tt

pub overflow_sub-result : goal.overflow_sub-result
overflow_sub-result c = safe w32 (end c) tt

pub returns : goal.returns
unfolding stripe_end_y_of
returns c = is_exact w32 (end c) tt
