-- Frame type 0 copies the CDEF plane, which is the definition there; else every stripe is restored.
use native.Mathlib.Omega.{arith}
use Rattle.restoration.proofs.Answers.{passed, legal_cdef, legal_deblocked, asked_of, copied}
use Rattle.restoration.proofs.write_plane.Goals as goal

pub copy_run-requires : goal.copy_run-requires
copy_run-requires c = let p = passed _ _ _ _ _ _ c.requires in (omega (arith, p.long_c, p.long_out), omega arith)

pub returns-then-f-eq0 : goal.returns-then-f-eq0
returns-then-f-eq0 c = let s = c in copied s.args.f s.args.table.now s.args.deblocked.now s.args.cdef.now _ _ s.requires s.args.out.now _ c.if-f-eq0.true (passed _ _ _ _ _ _ s.requires).long_out c.copy_run.ensures

pub restore_stripes-requires : goal.restore_stripes-requires
restore_stripes-requires c = let s = c in let p = passed _ _ _ _ _ _ s.requires in record { asked = (asked_of _ _ _ _ _ _ s.requires c.if-f-eq0.false, p.long_out, p.long_c, p.long_d); samples = (legal_cdef _ _ _ _ _ _ s.requires, legal_deblocked _ _ _ _ _ _ s.requires) }
