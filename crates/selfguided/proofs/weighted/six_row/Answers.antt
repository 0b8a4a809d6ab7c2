-- The run so far is the stamp of j sums; what is read lies before it and is as it was.
use Prim.Native.Nat.{ℕ, ◌+◌, ◌<◌}
use mathlib.Core.Path.{◌≡◌, refl, ◌∙◌, ap}
use native.Mathlib.Omega.{arith}
use lib.ListN.{get_or}
use lib.IntN.{pos, nat_abs}
use mir.Syntax.{w32}
use Rattle.laws.specs.ReadBack.{returned}
use Rattle.laws.specs.Bounds.{samples_part, samples_same}
use Rattle.laws.specs.Runs.{stamp_none, stamp_more, stamp_before}
use Rattle.selfguided.proofs.WeighLaws.{six_same}
use Rattle.selfguided.proofs.weighted.six_row.Goals as goal

kept : (c : goal.In-loop-j) → (k : ℕ) → k < c.args.to → get_or c.loop-j.s k (pos 0) ≡ get_or c.args.s.now k (pos 0)
kept c k h = stamp_before _ _ _ _ _ _ _ c.loop-j.invariant h

pub loop-j-init : goal.loop-j-init
loop-j-init c = stamp_none _ _ _

pub six_at-requires : goal.six_at-requires
six_at-requires c = (omega (arith, c.loop-j.auto.s), samples_same _ (samples_part _ _ c.requires.2 (omega arith) (omega arith)) (λ k p q. kept c k (omega arith)))

pub loop-j-preserved : goal.loop-j-preserved
loop-j-preserved c = stamp_more _ _ _ _ _ _ _ c.loop-j.invariant refl
    (returned w32 c.six_at.type_inv (c.six_at.ensures ∙ ap pos (six_same _ _ (λ k h. ap nat_abs (kept c.before (c.args.from + c.loop-j.j + k) (omega arith))))))
