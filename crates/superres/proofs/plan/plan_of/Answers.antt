-- The plane's upscaled width is within the frame's bound.
use native.Mathlib.Omega.{arith}
use Rattle.superres.proofs.Clean.{extent_small}
use Rattle.superres.proofs.plan.plan_of.Goals as goal

pub invariant_of-w : goal.invariant_of-w
invariant_of-w c = record { grows = (omega arith, omega (arith, extent_small c.args.s.plane c.args.s.sub_x c.args.s.upscaled_width c.requires.0.sub_x c.requires.0.upscaled)) }
