-- Stripe after stripe: those so far hold the restored samples, and one more makes it one more.
use Prim.Native.Nat.{◌*◌}
use lib.IntN.{pos}
use Rattle.laws.specs.Cover.{Painted}
use Rattle.standard.specs.Stripes as defined
use Rattle.standard.specs.Refusals.{sub_y_of, plane_height, plane_width}
use Rattle.standard.specs.Fetch.{restored_at}
use Rattle.standard.specs.Planes.{grid}
use Rattle.standard.specs.Calls.{shape_of}
use Rattle.standard.proofs.Rectangles.{index_of}
use Rattle.restoration.proofs.planes.restore_stripes.Given as goal

abbrev pub invariant-loop-at : goal.invariant-loop-at
invariant-loop-at l = Painted (index_of (sub_y_of l.f) l.f.unit_size (plane_width l.f)) (plane_width l.f) (plane_height l.f) (λ y x. pos (restored_at (shape_of l.f l.table) (grid (plane_width l.f) l.deblocked) (grid (plane_width l.f) l.cdef) y x)) (pos 0) 0 (l.at * defined.units (plane_width l.f) l.f.unit_size) l.initial.out l.out
