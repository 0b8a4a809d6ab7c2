-- Rectangle after rectangle: those so far are painted, and one more makes it one more.
use Prim.Native.Nat.{◌*◌}
use lib.IntN.{pos}
use Rattle.laws.specs.Cover.{Painted}
use Rattle.standard.specs.Refusals.{sub_y_of, plane_height, plane_width}
use Rattle.standard.proofs.Rectangles.{index_of}
use Rattle.restoration.specs.Seen.{unit_seen}
use Rattle.restoration.proofs.rectangles.restore_rectangles.Given as goal

abbrev pub invariant-loop-k : goal.invariant-loop-k
invariant-loop-k l = Painted (index_of (sub_y_of l.f) l.f.unit_size (plane_width l.f)) (plane_width l.f) (plane_height l.f) (unit_seen l.f l.table l.v) (pos 0) (l.at * l.cols) l.k l.initial.out l.out
