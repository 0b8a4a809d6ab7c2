-- What is read lies before the run and is as it was.
use Prim.Native.Nat.{ℕ, ◌+◌}
use mathlib.Core.Path.{◌∙◌, ap}
use native.Mathlib.Omega.{arith}
use lib.IntN.{pos}
use mir.Syntax.{w32}
use Rattle.laws.specs.Bounds.{samples_part}
use Rattle.laws.specs.ReadBack.{returned}
use Rattle.laws.specs.Runs.{stamp, stamp_more}
use Rattle.standard.specs.SelfGuided.{a2_of}
use Rattle.boxes.specs.Reads.{sample_at}
use Rattle.boxes.proofs.RunLaws.{sample_before, samples_before}
use Rattle.boxes.proofs.rows.a2_row.Goals as goal

pub a2_fours-requires : goal.a2_fours-requires
a2_fours-requires c = (omega arith, omega arith, samples_part _ _ c.requires.2 (omega arith) (omega arith))

pub loop-j-init : goal.loop-j-init
loop-j-init c = c.a2_fours.ensures

pub a2_at-requires : goal.a2_at-requires
a2_at-requires c = (omega arith, samples_before _ _ _ _ c.loop-j.invariant _ _ c.requires.2 (omega arith) (omega arith) (omega arith))

pub loop-j-preserved : goal.loop-j-preserved
loop-j-preserved c =
    stamp_more _ _ _ _ _ _ _ c.loop-j.invariant (omega arith) (returned w32 c.a2_at.type_inv (c.a2_at.ensures ∙ ap (λ n. pos (a2_of n)) (sample_before _ _ _ _ c.loop-j.invariant _ (omega arith))))

pub returns : goal.returns
returns c = let a = c.args in c.loop-j.invariant ∙ ap (λ (m : ℕ). stamp (λ k. pos (a2_of (sample_at a.s.now (a.from + k)))) a.to m a.s.now) (omega arith)
