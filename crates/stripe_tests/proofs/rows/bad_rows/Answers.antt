-- The runs above and below are handed out of edge rows that are as long as the plane asks.
use mathlib.Core.Path.{sym, ◌∙◌}
use Prim.Native.Nat.{ℕ, ◌-◌, ◌*◌}
use Rattle.laws.specs.Congruence.{ap3}
use Rattle.standard.specs.Stripes as defined
use Rattle.stripe_tests.proofs.Laws.{edge_room}
use Rattle.stripe_tests.proofs.rows.bad_rows.Goals as goal

pub above-requires : goal.above-requires
above-requires c = let h = c.height-h.ensures in let w = c.width-w.ensures in let y = c.sub_y-sub.ensures in
    (y.bound, h.bound.0, h.bound.1, w.bound.1, edge_room c.args.p.frame _ c.requires.3 ∙ sym (ap3 (λ (w sy h : ℕ). 4 * w * (defined.stripes sy h - 1)) w.value y.value h.value))

pub below-requires : goal.below-requires
below-requires c = let h = c.height-h.ensures in let w = c.width-w.ensures in let y = c.sub_y-sub.ensures in
    (y.bound, h.bound.0, h.bound.1, w.bound.1, edge_room c.args.p.frame _ c.requires.3 ∙ sym (ap3 (λ (w sy h : ℕ). 4 * w * (defined.stripes sy h - 1)) w.value y.value h.value))
