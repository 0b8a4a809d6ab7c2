-- What is read lies before the run and is as it was.
use Prim.Native.Nat.{◌*◌, ◌-◌}
use mathlib.Core.Path.{◌∙◌}
use native.Mathlib.Omega.{arith}
use lib.IntN.{pos}
use mir.Syntax.{w32}
use Rattle.laws.specs.Congruence.{ap2}
use Rattle.laws.specs.ReadBack.{returned}
use Rattle.laws.specs.Runs.{stamp_none, stamp_more, stamp_before}
use Rattle.standard.specs.Arithmetic.{round_ℕ}
use Rattle.boxes.proofs.RunLaws.{sample_before}
use Rattle.boxes.proofs.TableLaws.{shares_kept, weighed_kept}
use Rattle.boxes.proofs.rows.b2_row.Goals as goal

pub loop-j-init : goal.loop-j-init
loop-j-init c = stamp_none _ _ _

pub b2_at-requires-clause-shares : goal.b2_at-requires-clause-shares
b2_at-requires-clause-shares c = (
  shares_kept _ _ _ c.requires.shares.0 (omega arith) (omega arith) (λ k p q. stamp_before _ _ _ _ _ _ _ c.loop-j.invariant (omega arith)),
  weighed_kept _ _ _ c.requires.shares.1 (omega arith) (omega arith) (λ k p q. stamp_before _ _ _ _ _ _ _ c.loop-j.invariant (omega arith)),
)

pub loop-j-preserved : goal.loop-j-preserved
loop-j-preserved c =
    stamp_more _ _ _ _ _ _ _ c.loop-j.invariant (omega arith)
    (returned w32 c.b2_at.type_inv (c.b2_at.ensures ∙ ap2 (λ x y. pos (round_ℕ 12 ((256 - x) * y * c.args.o))) (sample_before _ _ _ _ c.loop-j.invariant _ (omega arith)) (sample_before _ _ _ _ c.loop-j.invariant _ (omega arith))))
