-- Row by row: the rows so far are the rectangle's, and one more run makes it one more row.
use Prim.Native.Nat.{◌+◌, ◌*◌}
use mathlib.Core.Path.{◌≡◌}
use lib.ListN.{get_or}
use lib.IntN.{pos}
use Rattle.laws.specs.Rows.{rows}
use Rattle.fetch.proofs.copy_rect.Given as goal

abbrev pub invariant-loop-y : goal.invariant-loop-y
invariant-loop-y l = l.out ≡ rows (λ y x. get_or l.src ((l.at + y) * l.w + (l.r.x + x)) (pos 0)) (l.r.y * l.w + l.r.x) l.w l.r.w l.y l.initial.out
