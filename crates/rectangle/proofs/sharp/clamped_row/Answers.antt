-- The copy is the clamped part of the row, so its middle values are the row's.
use Prim.Native.Nat.{◌+◌}
use mathlib.Core.Path.{◌∙◌}
use native.Mathlib.Omega.{arith}
use Rattle.laws.specs.Bounds.{samples_part}
use Rattle.laws.specs.Runs.{stamp_same}
use Rattle.standard.specs.Depths.{largest}
use Rattle.rectangle.proofs.SharpLaws.{copied_samples, copied_value}
use Rattle.rectangle.proofs.sharp.clamped_row.Goals as goal

pub across_row-requires : goal.across_row-requires
across_row-requires c = let s = c.args in record { n_in_bounds = (omega arith, omega arith, omega arith); samples = samples_part 0 _ (copied_samples s.row.now _ _ s.x0 (s.n + 6) c.gather_row.ensures (omega arith) (omega arith) (largest s.d) c.requires.samples) (omega arith) (omega arith) }

pub returns : goal.returns
returns c = let s = c.args in c.across_row.ensures ∙ stamp_same _ _ _ _ _ (λ x h. copied_value s.row.now _ _ s.x0 (s.n + 6) c.gather_row.ensures (omega arith) (omega arith) s.d s.taps.now.t x (omega arith))
