-- What is left of a job once it is read: its number of the table, and what is answered and left in the output.
use Rattle.std.specs.Prelude.{cond, List, ℕ, eqb, ℤ, pos, nat_abs, length, get_or}
use Rattle.laws.specs.Lists.{listing}
use Rattle.standard.specs.declared.Frame.{Frame}
use Rattle.standard.specs.declared.Report.{Report}
use Rattle.standard.specs.Answers.{no_report}
use Rattle.standard.specs.Arithmetic.{sum}
use Rattle.standard.specs.Refusals.{first}
use Rattle.standard.specs.Calls.{if_done, Lent, run}
use Rattle.standard.specs.Refusals.{plane_height, plane_width, sub_y_of}
use Rattle.standard.specs.Stripes.{stripes}
use Rattle.standard.specs.Job.{Job, job_tests, job_rows, job_report}

abbrev pub job_with : Frame → List ℤ → List ℤ → List ℤ → Job
job_with f table D C = record { frame = f; units = table; deblocked = D; cdef = C }

unfoldable pub work_answer : Job → ℕ × Report
work_answer j = let n = first (job_tests j) in (n, if_done n (job_report j) no_report)

unfoldable pub work_rows : Job → List ℤ → List ℤ
work_rows j out = if_done (first (job_tests j)) (job_rows j) out

-- what is printed of a frame's plane beside its rows
unfoldable pub report_of : Frame → ℕ → ℕ → Report
report_of f changed differs = record { plane = f.plane; width = plane_width f; height = plane_height f; stripes = stripes (sub_y_of f) (plane_height f); changed = changed; differs = differs }

-- the places where two slices differ
unfoldable pub differing : List ℤ → List ℤ → ℕ
differing P Q = sum (length Q) (λ n. cond (eqb (nat_abs (get_or P n (pos 0))) (nat_abs (get_or Q n (pos 0)))) 0 1)

-- n stripes one after another, each with the same arguments
unfoldable pub stripes_run : Frame → List ℤ → List ℤ → ℕ → ℕ → ℕ → Lent → Lent
stripes_run f table E scratch copy n st = run (listing n (λ s. record { frame = f; table = table; edges = E; stripe = s; scratch = scratch; copy = copy })) st
