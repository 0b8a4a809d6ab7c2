-- Row by row: the rows so far are the window's, and one more gathered row makes it one more.
use Rattle.std.proofs.Common.{◌≡◌, ap, ◌∙◌, ℕ, ◌<◌, List, ℤ, pos, length, get_or, arith, rules}
use Rattle.laws.specs.Congruence.{ap2}
use Rattle.laws.specs.Rows.{rows_none, rows_more}
use Rattle.standard.specs.Fetch as standard
use Rattle.fetch.specs.Source.{source_row}
use Rattle.fetch.proofs.Laws.{source_long}
use Rattle.fetch.proofs.gather.Goals as goal

-- the clamped row is a row of the plane
in_plane : (c : goal.After-near-y) → c.near-y.result < c.args.h
in_plane c = omega (arith, c.near-y.ensures)

-- what is handed out is w long
row_long : (c : goal.After-gather_row-arg-1) → length c.source_row-row.result.now ≡ c.args.w
row_long c = ap length c.source_row-row.ensures ∙ source_long c.args.r c.requires.reach.0 c.near-y.result (in_plane c.before.before)

pub loop-k-init : goal.loop-k-init
loop-k-init c = rows_none _ _ _ _ _

pub source_row-row-requires : goal.source_row-row-requires
source_row-row-requires c = record { reach = c.requires.reach.0; y_lt_h = (in_plane c, omega (arith, in_plane c), c.requires.reach.1, c.requires.reach.2, c.requires.reach.3) }

pub gather_row-requires : goal.gather_row-requires
gather_row-requires c = let long = row_long c in search rules

pub loop-k-preserved : goal.loop-k-preserved
loop-k-preserved c =
    let s = c.args in
    let row = source_row s.inside.now s.beside.now s.w s.r in
    rows_more _ _ _ _ _ _ _ _ _ _ c.gather_row.ensures c.loop-k.invariant (omega arith)
    (λ j h. ap2 (λ (l : List ℤ) (i : ℕ). get_or l i (pos 0)) (c.source_row-row.ensures ∙ ap row c.near-y.ensures) (ap (λ (n : ℕ). standard.near n s.x0 j) (row_long c.before.before)))
