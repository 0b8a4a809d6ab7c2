-- What is read lies before the run and is as it was.
use Prim.Native.Nat.{◌+◌, ◌*◌}
use mathlib.Core.Path.{◌∙◌, ap}
use native.Mathlib.Omega.{arith}
use lib.IntN.{pos}
use mir.Syntax.{w32}
use Rattle.laws.specs.Bounds.{Samples}
use Rattle.laws.specs.ReadBack.{returned}
use Rattle.laws.specs.Runs.{stamp_none, stamp_more, stamp_before}
use Rattle.boxes.proofs.RunLaws.{samples_before}
use Rattle.boxes.proofs.SumLaws.{sums_kept, sums_small}
use Rattle.boxes.proofs.sums.sum_row.Given.{Over}
use Rattle.boxes.proofs.sums.sum_row.Goals as goal

bounded : (g : Over) (c : goal.In-loop-j g) → Samples 83845125 (c.args.from + c.loop-j.j) (c.args.from + c.loop-j.j + 2 * g.row.R * c.args.st + 1) c.loop-j.s
bounded g c = samples_before _ _ _ _ c.loop-j.invariant _ _ c.requires.samples (omega arith) (omega arith) (omega arith)

pub loop-j-init : goal.loop-j-init
loop-j-init g c = stamp_none _ _ _

pub sum_at-requires : goal.sum_at-requires
sum_at-requires g c = (omega arith, bounded g c, omega arith)

pub signed-requires : goal.signed-requires
signed-requires g c = omega (arith, c.sum_at.ensures, sums_small (bounded g c.before) (2 * g.row.R) c.args.st (omega arith))

pub loop-j-preserved : goal.loop-j-preserved
loop-j-preserved g c =
    stamp_more _ _ _ _ _ _ _ c.loop-j.invariant (omega arith)
    (returned w32 c.signed.type_inv (c.signed.ensures ∙ ap pos (c.sum_at.ensures ∙ sums_kept (2 * g.row.R) _ _ _ _ c.args.to (omega arith) (λ k h. stamp_before _ _ _ _ _ _ _ c.loop-j.invariant h))))
