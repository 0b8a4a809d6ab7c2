-- The sum stays above 2, since a later stripe starts at row 28 or after it.
use Prim.Native.Nat.{ℕ, ◌+◌, ◌-◌, min}
use mathlib.Core.Path.{◌∙◌, ap}
use native.Mathlib.Omega.{arith}
use Rattle.standard.specs.Planes.{edge_row}
use Rattle.frames.proofs.Legal.{halved}
use Rattle.edges.proofs.Laws.{start_later}
use Rattle.edges.proofs.rows.edge_row.Goals as goal

pub overflow_sub-b : goal.overflow_sub-b
overflow_sub-b c = let s = c in omega (arith, c.stripe_start-b.ensures, start_later (halved _ s.requires.0) s.args.s s.requires.1)

pub returns : goal.returns
unfolding edge_row
returns c = let a = c.args in c.min.ensures ∙ ap (λ (b : ℕ). min (b + a.k - 2) (a.h - 1)) c.stripe_start-b.ensures
