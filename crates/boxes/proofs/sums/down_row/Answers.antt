-- What is read lies before both runs and is as it was.
use Prim.Native.Nat.{ℕ, ◌+◌, ◌*◌, ◌<◌}
use mathlib.Core.Path.{◌≡◌, ◌∙◌, ap}
use native.Mathlib.Omega.{arith}
use lib.Dec.{lit≤}
use lib.ListN.{get_or}
use lib.IntN.{pos}
use mir.Syntax.{w32}
use Rattle.laws.specs.Bounds.{Samples, samples_part, samples_same}
use Rattle.laws.specs.ReadBack.{returned}
use Rattle.boxes.proofs.Pairs.{pair_none, pair_more, pair_before}
use Rattle.boxes.proofs.SumLaws.{sums_kept, sums_small, squares_kept, squares_small}
use Rattle.boxes.proofs.Words.{samples_widen}
use Rattle.boxes.proofs.sums.down_row.Given.{Over}
use Rattle.boxes.proofs.sums.down_row.Goals as goal

module _ (g : Over) (c : goal.In-loop-j g) where
  kept : (k : ℕ) → k < c.args.to → get_or c.loop-j.s k (pos 0) ≡ get_or c.args.s.now k (pos 0)
  kept k h = pair_before _ _ _ _ _ _ _ _ _ c.loop-j.invariant (omega arith) h

  bounded : Samples 4095 (c.args.from + c.loop-j.j) (c.args.from + c.loop-j.j + 2 * g.row.R * c.args.st + 1) c.loop-j.s
  bounded = samples_same _ (samples_part _ _ c.requires.samples (omega arith) (omega arith)) (λ k p q. kept k (omega arith))

pub loop-j-init : goal.loop-j-init
loop-j-init g c = pair_none _ _ _ _ _

pub sum_at-requires : goal.sum_at-requires
sum_at-requires g c = (omega arith, samples_widen 83845125 (lit≤ tt) (bounded g c), omega arith)

pub signed-v-requires : goal.signed-v-requires
signed-v-requires g c = omega (arith, c.sum_at.ensures, sums_small (bounded g c.before) (2 * g.row.R) c.args.st (omega arith))

pub squares_at-requires : goal.squares_at-requires
squares_at-requires g c = (omega arith, bounded g c.before.before, omega arith)

pub signed-q-requires : goal.signed-q-requires
signed-q-requires g c = omega (arith, c.squares_at.ensures, squares_small (bounded g c.before.before.before) (2 * g.row.R) c.args.st (omega arith))

pub loop-j-preserved : goal.loop-j-preserved
loop-j-preserved g c = let i = c.before.before.before.before in
    pair_more _ _ _ _ _ _ _ _ _ _ _ c.loop-j.invariant (omega arith) (omega arith) (omega arith)
    (returned w32 c.signed-v.type_inv (c.signed-v.ensures ∙ ap pos (c.sum_at.ensures ∙ sums_kept (2 * g.row.R) _ _ _ _ c.args.to (omega arith) (kept g i))))
    (returned w32 c.signed-q.type_inv (c.signed-q.ensures ∙ ap pos (c.squares_at.ensures ∙ squares_kept (2 * g.row.R) _ _ _ _ c.args.to (omega arith) (kept g i))))
