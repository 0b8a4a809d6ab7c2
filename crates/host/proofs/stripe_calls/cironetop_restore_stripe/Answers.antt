-- The call under its C name: its own promise, and the answer in numbers.
use mathlib.Core.Path.{◌∙◌}
use Rattle.laws.specs.Congruence.{ap2}
use Rattle.in_place.specs.Call.{lent}
use Rattle.host.proofs.stripe_calls.cironetop_restore_stripe.Goals as goal

pub returns : goal.returns
returns c = let e = c.restore_stripe.ensures in record { value = c.stored.ensures ∙ e.promised.0; marks_after = ap2 lent e.promised.1 e.promised.2; scratch_unchanged = e.scratch_unchanged }
