-- The stores are four steps of one run.
use Prim.Native.Nat.{ℕ, ◌+◌}
use mathlib.Core.Path.{◌∙◌, ap}
use native.Mathlib.Omega.{arith}
use lib.IntN.{ℤ, pos}
use mir.Syntax.{w32}
use Rattle.laws.specs.ReadBack.{returned}
use Rattle.laws.specs.Runs.{stamp_none, stamp_more}
use Rattle.standard.specs.SelfGuided.{a2_of}
use Rattle.boxes.specs.Reads.{sample_at}
use Rattle.boxes.proofs.rows.a2_four.Goals as goal

pub returns : goal.returns
returns c = let d = c.args.s.now in let f : ℕ → ℤ = λ j. pos (a2_of (sample_at d (c.args.from + j))) in let to = c.args.to in
    stamp_more f to 3 d _ _ _
    (stamp_more f to 2 d _ _ _
    (stamp_more f to 1 d _ _ _
    (stamp_more f to 0 d d _ _ (stamp_none f to d) (omega arith) (returned w32 c.a2_at-a.type_inv (c.a2_at-a.ensures ∙ ap (λ n. pos (a2_of (sample_at d n))) (omega arith))))
    (omega arith) (returned w32 c.a2_at-b.type_inv c.a2_at-b.ensures))
    (omega arith) (returned w32 c.a2_at-c.type_inv c.a2_at-c.ensures))
    (omega arith) (returned w32 c.a2_at-d.type_inv c.a2_at-d.ensures)
