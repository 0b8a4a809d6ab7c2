-- The definition's five numbers; stripe 0 has none above it.
use mathlib.Core.Path.{refl}
use native.Mathlib.Omega.{arith}
use Rattle.in_place.proofs.Answers.{source_of}
use Rattle.in_place.proofs.rows.stripe_source.Goals as goal

pub returns-then-s-eq0 : goal.returns-then-s-eq0
returns-then-s-eq0 c = source_of _ _ _ _ _ _ _ _ _ _ c.stripe_start-start.ensures c.stripe_stop-stop.ensures refl (omega (arith, c.if-s-eq0.true)) refl

pub returns : goal.returns
returns c = source_of _ _ _ _ _ _ _ _ _ _ c.stripe_start-start.ensures c.stripe_stop-stop.ensures refl refl refl
