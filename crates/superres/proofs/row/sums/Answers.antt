-- The run so far is the stamp of x sums.
use mathlib.Core.Path.{◌≡◌}
use native.Mathlib.Omega.{arith}
use mir.Syntax.{w32}
use Rattle.laws.specs.Bounds.{sized_part}
use Rattle.laws.specs.ReadBack.{returned}
use Rattle.laws.specs.Runs.{stamp_none, stamp_more}
use Rattle.superres.proofs.row.sums.Goals as goal

pub loop-x-init : goal.loop-x-init
loop-x-init c = stamp_none _ _ _

pub dot8-requires : goal.dot8-requires
dot8-requires c =
    let x = c.loop-x.x in
    let r = c.requires.n_in_bounds.1 in
    rw (c.from.ensures, c.from-in-loop-x.ensures) (record { i_in_bounds = (r.place x (omega arith), omega (arith, r.tap_row x)); sized = (r.sized x (omega arith), sized_part _ _ c.requires.in_bounds.1 (omega arith) (r.tap_row x (omega arith))) })

pub loop-x-preserved : goal.loop-x-preserved
loop-x-preserved c = stamp_more _ _ _ _ _ _ _ c.loop-x.invariant (omega arith) (returned w32 c.dot8.type_inv (rw (c.from.ensures, c.from-in-loop-x.ensures) at c.dot8.ensures))

pub returns : goal.returns
returns c = let e : c.loop-x.x ≡ c.args.n = omega arith in rw e at c.loop-x.invariant
