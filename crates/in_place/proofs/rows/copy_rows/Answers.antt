-- The rows that are lent out are the definition's, and the copy begins with them.
use native.Mathlib.Omega.{arith}
use Rattle.in_place.proofs.Answers.{copied, copy_fits}
use Rattle.in_place.proofs.rows.copy_rows.Goals as goal

pub invariant_of-p : goal.invariant_of-p
invariant_of-p c = let n = c.requires.0 in record { plane = n.plane; high = n.high; wide = n.wide }

pub own_rows-rows-requires : goal.own_rows-rows-requires
own_rows-rows-requires c = (c.requires.1, c.requires.2)

pub copy_run-requires : goal.copy_run-requires
copy_run-requires c = let s = c in let p = s.requires in (omega (arith, copy_fits p.0 s.args.s p.1 s.args.plane.now _ p.2 c.own_rows-rows.ensures _ p.3), omega arith)

pub returns : goal.returns
returns c = let k = c in let s = k in let p = s.requires in copied p.0 s.args.s p.1 s.args.plane.now _ p.2 k.own_rows-rows.ensures s.args.copy.now _ (copy_fits p.0 s.args.s p.1 s.args.plane.now _ p.2 k.own_rows-rows.ensures _ p.3) c.copy_run.ensures
