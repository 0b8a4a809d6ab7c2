-- A refused call leaves the slice as it was.
use Rattle.edges.proofs.Numbers.{captured_refused, refused}
use Rattle.edges.proofs.capture_edges.Goals as goal

pub returns-in_err-p-clause-edges_after : goal.returns-in_err-p-clause-edges_after
returns-in_err-p-clause-edges_after c = captured_refused _ _ _ (refused _ _ c.in_err-p.ensures.number)
