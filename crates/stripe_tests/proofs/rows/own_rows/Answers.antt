-- The part from the stripe's first row to its last within the plane, by the extents that the callees ensure.
use Prim.Native.Nat.{ℕ, ◌+◌, ◌-◌, ◌*◌, ◌≤◌, min}
use mathlib.Core.Path.{◌≡◌, ◌∙◌, ap}
use native.Mathlib.Omega.{arith}
use lib.ListN.{length}
use Rattle.laws.specs.Congruence.{ap2}
use Rattle.standard.specs.Stripes as defined
use Rattle.standard.specs.Refusals.{plane_height, sub_y_of}
use Rattle.frames.proofs.Legal.{legal_plane}
use Rattle.stripe_tests.proofs.Laws.{Rows, own_part, rows_held, rows_of_legal}
use Rattle.stripe_tests.proofs.rows.own_rows.Goals as goal

-- the numbers that the callees gave
module _ (k : goal.After-min-stop) where
  abbrev lines : Rows (plane_height k.args.p.frame) (sub_y_of k.args.p.frame) k.args.s
  lines = rows_of_legal (legal_plane k.args.p) k.args.s k.requires.0

  abbrev wide : ℕ
  wide = k.width-w.result

  start_is : k.stripe_start-start.result ≡ defined.stripe_start (sub_y_of k.args.p.frame) k.args.s
  start_is = k.stripe_start-start.ensures ∙ ap (λ (n : ℕ). defined.stripe_start n k.args.s) k.sub_y-own.ensures.value

  stop_is : k.min-stop.result ≡ min (plane_height k.args.p.frame) (defined.stripe_stop (sub_y_of k.args.p.frame) k.args.s)
  stop_is = k.min-stop.ensures ∙ ap2 min k.height-h.ensures.value (k.stripe_stop.ensures ∙ ap (λ (n : ℕ). defined.stripe_stop n k.args.s) k.sub_y-own.ensures.value)

  fits : k.stripe_start-start.result * wide + (k.min-stop.result - k.stripe_start-start.result) * wide ≤ length k.args.plane.now
  fits = rows_held _ _ _ _ _ _ _ _ k.width-w.ensures.value start_is stop_is lines.ordered lines.inside k.requires.1

  ordered : k.stripe_start-start.result ≤ k.min-stop.result
  ordered = omega (arith, start_is, stop_is, lines.ordered)

pub stripe_start-start-requires : goal.stripe_start-start-requires
stripe_start-start-requires c = (c.sub_y-own.ensures.bound, (rows_of_legal (legal_plane c.args.p) c.args.s c.requires.0).few)

pub stripe_stop-requires : goal.stripe_stop-requires
stripe_stop-requires c = (c.sub_y-own.ensures.bound, (rows_of_legal (legal_plane c.args.p) c.args.s c.requires.0).few)

pub overflow_mul-a : goal.overflow_mul-a
overflow_mul-a c = omega (arith, fits c)

pub overflow_sub-e : goal.overflow_sub-e
overflow_sub-e c = omega (arith, ordered c)

pub overflow_mul-e : goal.overflow_mul-e
overflow_mul-e c = omega (arith, fits c)

pub overflow_add-e : goal.overflow_add-e
overflow_add-e c = omega (arith, fits c)

pub offset_bounds-plane-a : goal.offset_bounds-plane-a
offset_bounds-plane-a c = omega (arith, fits c)

pub slice_bounds-result-end : goal.slice_bounds-result-end
slice_bounds-result-end c = omega (arith, fits c)

pub returns : goal.returns
returns c = let k = c.before in own_part k.args.p.frame k.args.plane.now k.args.s _ _ _ k.width-w.ensures.value (start_is k) (stop_is k)
