-- A frame that no test refuses is a plane, divided.
use Rattle.geometry.proofs.Tests.{passed, untested}
use Rattle.geometry.proofs.planes.rectangle_of.Goals as goal

pub invariant_of-plane : goal.invariant_of-plane
invariant_of-plane c = let u = untested _ c.requires.f_value in record { plane = u.0; high = u.1; wide = u.2 }

pub invariant_of-d : goal.invariant_of-d
invariant_of-d c = record { size = (passed _ c.requires.f_value).no_5 }
