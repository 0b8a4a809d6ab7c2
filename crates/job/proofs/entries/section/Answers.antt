-- Entry by entry: the entries so far are stored.
use Prim.Native.Nat.{ℕ, ◌+◌}
use mathlib.Core.Path.{◌∙◌, ap}
use native.Mathlib.Omega.{arith}
use mir.Syntax.{w32}
use Rattle.laws.specs.ReadBack.{returned}
use Rattle.laws.specs.Runs.{stamp, stamp_none, stamp_more}
use Rattle.standard.specs.Refusals.{wide}
use Rattle.job.proofs.entries.section.Goals as goal

pub loop-k-init : goal.loop-k-init
loop-k-init g c = stamp_none _ _ _

pub loop-k-preserved : goal.loop-k-preserved
loop-k-preserved g c = stamp_more _ _ _ _ _ _ _ c.loop-k.invariant (omega arith) (returned w32 c.number.type_inv c.number.ensures ∙ ap g.S.Sense.number c.entry.ensures.0)

pub returns : goal.returns
returns g c = c.loop-k.invariant ∙ ap (λ (m : ℕ). stamp (λ i. g.S.Sense.number (wide c.args.bytes.now (c.args.at + i))) 0 m c.args.room.now) (omega arith)
