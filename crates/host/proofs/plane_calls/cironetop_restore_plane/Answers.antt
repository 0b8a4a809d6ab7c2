-- The call under its C name: its own promise, and the answer in numbers.
use mathlib.Core.Path.{◌∙◌}
use Rattle.host.proofs.plane_calls.cironetop_restore_plane.Goals as goal

pub returns : goal.returns
returns c = let e = c.restore_plane.ensures in record { result_value = c.from.ensures ∙ e.result_value; out_after = e.out_after; scratch_unchanged = e.scratch_unchanged }
