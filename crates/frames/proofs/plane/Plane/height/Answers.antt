-- Sides and subsampling of the frame are legal.
use native.Mathlib.Omega.{arith}
use Rattle.frames.proofs.Legal.{legal_plane}
use Rattle.frames.proofs.plane.Plane.height.Goals as goal

pub extent-requires : goal.extent-requires
extent-requires c = let l = legal_plane c.args.self in (l.sub_y, l.high)

pub returns-clause-bound : goal.returns-clause-bound
returns-clause-bound c = let l = legal_plane c.args.self in (omega (arith, c.extent.ensures, l.rows), omega (arith, c.extent.ensures, l.rows_low))
