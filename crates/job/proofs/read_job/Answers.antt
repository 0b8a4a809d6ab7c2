-- Where the form gives its number, that number and the room as it was; else the sections, one after another.
use native.Mathlib.Omega.{arith}
use Rattle.standard.proofs.Answers.{job_refused}
use Rattle.job.proofs.Laws.{found_in, room_refused, units_laid, deblocked_laid, cdef_laid}
use Rattle.job.proofs.read_job.Goals as goal

pub returns-in_err-s-clause-units_after : goal.returns-in_err-s-clause-units_after
returns-in_err-s-clause-units_after c = room_refused _ _ (job_refused _) c.in_err-s.ensures _ _

pub returns-in_err-s-clause-deblocked_after : goal.returns-in_err-s-clause-deblocked_after
returns-in_err-s-clause-deblocked_after c = room_refused _ _ (job_refused _) c.in_err-s.ensures _ _

pub returns-in_err-s-clause-cdef_after : goal.returns-in_err-s-clause-cdef_after
returns-in_err-s-clause-cdef_after c = room_refused _ _ (job_refused _) c.in_err-s.ensures _ _

pub section-requires : goal.section-requires
section-requires c = let f = found_in _ _ c.in_ok-s.ensures in (omega (arith, f.few_units), omega (arith, f.long))

pub overflow_add-s : goal.overflow_add-s
overflow_add-s c = let f = found_in _ _ c.in_ok-s.ensures in omega (arith, f.few_units)

pub section-requires-2 : goal.section-requires-2
section-requires-2 c = let f = found_in _ _ c.in_ok-s.ensures in (omega (arith, f.few_deblocked), omega (arith, f.long))

pub overflow_add-s-2 : goal.overflow_add-s-2
overflow_add-s-2 c = let f = found_in _ _ c.in_ok-s.ensures in omega (arith, f.few_units)

pub overflow_add-s-3 : goal.overflow_add-s-3
overflow_add-s-3 c = let f = found_in _ _ c.in_ok-s.ensures in omega (arith, f.few_units, f.few_deblocked)

pub section-requires-3 : goal.section-requires-3
section-requires-3 c = let f = found_in _ _ c.in_ok-s.ensures in (omega (arith, f.few_cdef), omega (arith, f.long))

pub returns-clause-units_after : goal.returns-clause-units_after
returns-clause-units_after c = let f = found_in _ _ c.in_ok-s.ensures in units_laid _ _ f _ _ (omega arith) c.section.ensures

pub returns-clause-deblocked_after : goal.returns-clause-deblocked_after
returns-clause-deblocked_after c = let f = found_in _ _ c.in_ok-s.ensures in deblocked_laid _ _ f _ _ (omega arith) c.section-2.ensures

pub returns-clause-cdef_after : goal.returns-clause-cdef_after
returns-clause-cdef_after c = let f = found_in _ _ c.in_ok-s.ensures in cdef_laid _ _ f _ _ (omega arith) c.section-3.ensures
