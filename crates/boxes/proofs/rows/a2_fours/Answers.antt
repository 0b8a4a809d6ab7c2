-- Four more values are one more run, read where nothing was written.
use Prim.Native.Nat.{ℕ, ◌+◌, ◌*◌}
use mathlib.Core.Path.{◌∙◌, ap}
use native.Mathlib.Omega.{arith}
use lib.IntN.{ℤ, pos}
use Rattle.laws.specs.Runs.{stamp, stamp_none, stamp_next}
use Rattle.standard.specs.SelfGuided.{a2_of}
use Rattle.boxes.specs.Reads.{sample_at}
use Rattle.boxes.proofs.RunLaws.{sample_before, samples_before}
use Rattle.boxes.proofs.rows.a2_fours.Goals as goal

pub loop-j-init : goal.loop-j-init
loop-j-init c = stamp_none _ _ _

pub a2_four-requires : goal.a2_four-requires
a2_four-requires c = (omega arith, omega arith, samples_before _ _ _ _ c.loop-j.invariant _ _ c.requires.2 (omega arith) (omega arith) (omega arith))

pub loop-j-preserved : goal.loop-j-preserved
loop-j-preserved c = let f : ℕ → ℤ = λ k. pos (a2_of (sample_at c.args.s.now (c.args.from + k))) in
    stamp_next f _ c.args.to (4 * c.loop-j.j) 4 _ c.args.s.now c.loop-j.s _ c.loop-j.invariant c.a2_four.ensures (omega arith)
    (λ k h. ap (λ n. pos (a2_of n)) (sample_before _ _ _ _ c.loop-j.invariant _ (omega arith)) ∙ ap (λ n. pos (a2_of (sample_at c.args.s.now n))) (omega arith))
    ∙ ap (λ n. stamp f c.args.to n c.args.s.now) (omega arith)
