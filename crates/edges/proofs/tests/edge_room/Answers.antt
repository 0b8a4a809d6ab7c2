-- There is a stripe.
use native.Mathlib.Omega.{arith}
use Rattle.edges.proofs.Laws.{some_stripe}
use Rattle.edges.proofs.tests.edge_room.Goals as goal

pub overflow_sub-result : goal.overflow_sub-result
overflow_sub-result c = omega (arith, c.stripes-n.ensures, some_stripe c.sub_y.result c.height.result)
