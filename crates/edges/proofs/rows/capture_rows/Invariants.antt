-- Row by row: the rows so far are the boundaries' rows; all of them are the captured slice.
use Prim.Native.Nat.{◌+◌, ◌*◌, ◌/◌, ◌%◌}
use mathlib.Core.Path.{◌≡◌}
use lib.ListN.{get_or}
use lib.IntN.{pos}
use Rattle.laws.specs.Rows.{rows}
use Rattle.standard.specs.Planes.{edge_row}
use Rattle.edges.proofs.rows.capture_rows.Given as goal

abbrev pub invariant-loop-k : goal.invariant-loop-k
invariant-loop-k l = l.edges ≡ rows (λ k x. get_or l.deblocked (edge_row l.sub_y l.h (k / 4 + 1) (k % 4) * l.w + x) (pos 0)) 0 l.w l.w l.k l.initial.edges
