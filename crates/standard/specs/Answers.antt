-- Document 01's number and values for each case of an answer. Beside a refusal counts and rectangle are zeros.
use Rattle.std.specs.Prelude.{ℕ, ℤ, pos, neg_ℤ, Result, Ok, Err}
use Rattle.standard.specs.declared.Refusal.{Refusal}
use Rattle.standard.specs.declared.Refusal.TheVariants.{BadDepth, BadPlane, BadFrameType, BadFrameSide, BadUnitSize, WidthShrinks, BadShape, NotWider, BadEdgeRows, BadUnitTable, BadUnit, BadMarks, BadIndex, AlreadyRestored, BadSample, ShortScratch}
use Rattle.standard.specs.declared.Counts.{Counts}
use Rattle.standard.specs.declared.Geometry.{Geometry}
use Rattle.standard.specs.declared.Frame.{Frame}
use Rattle.standard.specs.declared.Sections.{Sections}
use Rattle.standard.specs.declared.JobRefusal.{JobRefusal}
use Rattle.standard.specs.declared.JobRefusal.TheVariants.{NoJob, OverBound, Table}
use Rattle.standard.specs.declared.Report.{Report}

unfoldable pub refusal_number : Refusal → ℕ
refusal_number BadDepth = 1
refusal_number BadPlane = 2
refusal_number BadFrameType = 3
refusal_number BadFrameSide = 4
refusal_number BadUnitSize = 5
refusal_number WidthShrinks = 6
refusal_number BadShape = 7
refusal_number NotWider = 8
refusal_number BadEdgeRows = 9
refusal_number BadUnitTable = 10
refusal_number BadUnit = 11
refusal_number BadMarks = 12
refusal_number BadIndex = 13
refusal_number AlreadyRestored = 14
refusal_number BadSample = 15
refusal_number ShortScratch = 16

unfoldable pub no_counts : Counts
no_counts = record { unit_rows = 0; unit_cols = 0; stripes = 0; rectangles = 0 }

unfoldable pub nowhere : Geometry
nowhere = record {
  unit_row = 0;
  unit_col = 0;
  x = 0;
  y = 0;
  w = 0;
  h = 0;
  stripe_start_y = pos 0;
  stripe_end_y = pos 0;
  plane_end_x = pos 0;
  plane_end_y = pos 0;
}

-- an answer as a number and a value: 0 and what is done, or the refusal's number and `none`
abbrev pub answer_of : {A E : Type 0} → (E → ℕ) → A → Result A E → ℕ × A
answer_of number none (Ok done) = (0, done)
answer_of number none (Err why) = (number why, none)

-- whole plane: number and `changed`
abbrev pub of_restored : Result ℕ Refusal → ℕ × ℕ
of_restored = answer_of refusal_number 0

-- capture, one stripe in place, upscale: the number
abbrev pub of_stored : Result (Unit {0}) Refusal → ℕ
of_stored (Ok _) = 0
of_stored (Err why) = refusal_number why

-- number and counts
abbrev pub of_counted : Result Counts Refusal → ℕ × Counts
of_counted = answer_of refusal_number no_counts

-- number and rectangle
abbrev pub of_placed : Result Geometry Refusal → ℕ × Geometry
of_placed = answer_of refusal_number nowhere

-- the sample, or minus the number
abbrev pub of_sampled : Result ℕ Refusal → ℤ
of_sampled (Ok sample) = pos sample
of_sampled (Err why) = neg_ℤ (pos (refusal_number why))

-- ---- jobs: the extra results, and the table's
unfoldable pub job_refusal_number : JobRefusal → ℕ
job_refusal_number NoJob = 17
job_refusal_number OverBound = 18
job_refusal_number (Table why) = refusal_number why

unfoldable pub no_frame : Frame
no_frame = record { plane = 0; sub_x = 0; sub_y = 0; depth = 0; frame_height = 0; upscaled_width = 0; unit_size = 0; frame_type = 0 }

unfoldable pub no_sections : Sections
no_sections = record { frame = no_frame; units = 0; deblocked = 0; cdef = 0 }

unfoldable pub no_report : Report
no_report = record { plane = 0; width = 0; height = 0; stripes = 0; changed = 0; differs = 0 }

-- the reader: number, frame and counts
abbrev pub of_job_read : Result Sections JobRefusal → ℕ × Sections
of_job_read = answer_of job_refusal_number no_sections

-- the job program: number and what it prints beside the rows
abbrev pub of_job_ran : Result Report JobRefusal → ℕ × Report
of_job_ran = answer_of job_refusal_number no_report
