-- The plane's subsampling is no more than the frame's.
use native.Mathlib.Omega.{arith}
use Rattle.frames.proofs.Legal.{legal_plane}
use Rattle.frames.proofs.plane.Plane.sub_x.Goals as goal

pub returns-clause-bound : goal.returns-clause-bound
returns-clause-bound c = omega (arith, c.sub_of.ensures, (legal_plane c.args.self).own_x)
