-- What is read lies before the run and is as it was.
use Prim.Native.Nat.{◌+◌, ◌*◌}
use mathlib.Core.Path.{◌∙◌}
use native.Mathlib.Omega.{arith}
use lib.IntN.{pos}
use mir.Syntax.{w32}
use Rattle.laws.specs.Congruence.{ap2}
use Rattle.laws.specs.ReadBack.{returned}
use Rattle.laws.specs.Runs.{stamp_none, stamp_more, stamp_before}
use Rattle.standard.specs.SelfGuided.{area}
use Rattle.boxes.specs.Scales.{z_of}
use Rattle.boxes.proofs.RunLaws.{sample_before, samples_before}
use Rattle.boxes.proofs.SumLaws.{sums_kept}
use Rattle.boxes.proofs.rows.z_row.Goals as goal

pub loop-j-init : goal.loop-j-init
loop-j-init g c = stamp_none _ _ _

pub z_at-requires-clause-samples : goal.z_at-requires-clause-samples
z_at-requires-clause-samples g c =
    samples_before _ _ _ _ c.loop-j.invariant (c.args.fa + c.loop-j.j) (c.args.fa + c.loop-j.j + (2 * g.row.R + 1)) c.requires.samples (omega arith) (omega arith) (omega arith)

pub z_at-requires-clause-samples_2 : goal.z_at-requires-clause-samples_2
z_at-requires-clause-samples_2 g c = samples_before _ _ _ _ c.loop-j.invariant _ _ c.requires.samples_2 (omega arith) (omega arith) (omega arith)

pub loop-j-preserved : goal.loop-j-preserved
loop-j-preserved g c =
    stamp_more _ _ _ _ _ _ _ c.loop-j.invariant (omega arith)
    (returned w32 c.z_at.type_inv (c.z_at.ensures ∙ ap2 (λ x y. pos (z_of c.args.z (area g.row.R) x y)) (sums_kept (2 * g.row.R) _ _ _ 1 c.args.to (omega arith) (λ k h. stamp_before _ _ _ _ _ _ _ c.loop-j.invariant h)) (sample_before _ _ _ _ c.loop-j.invariant _ (omega arith))))
