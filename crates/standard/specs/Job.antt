-- Jobs (document 01, "The job program and the host call"): a plane's frame numbers, units and samples as bytes, in one form, and what the
-- job program answers. Written by `job_bytes`, read by `job_of`: each undoes the other (proofs/Job).
use Rattle.std.specs.Prelude.{Bool, cond, not, ◌&&◌, ◌||◌, List, [], ◌∷◌, ◌++◌, map, ℕ, ◌+◌, ◌*◌, ◌/◌, ◌%◌, ℤ, pos, nat_abs, ◌-ℤ◌, length, drop, replicate, eqb, ltb}
use Rattle.laws.specs.Lists.{listing}
use Rattle.standard.specs.declared.Frame.{Frame}
use Rattle.standard.specs.declared.Sections.{Sections}
use Rattle.standard.specs.declared.Report.{Report}
use Rattle.standard.specs.Arithmetic.{wrap}
use Rattle.standard.specs.Fetch.{changed}
use Rattle.standard.specs.Stripes.{stripes}
use Rattle.standard.specs.Planes.{grid, restored_slice, captured_slice}
use Rattle.standard.specs.Refusals.{sub_y_of, plane_height, plane_width, first, wide, plane_tests}
use Rattle.standard.specs.Answers.{no_sections, no_report}
use Rattle.standard.specs.Calls.{if_done, shape_of, plane_changed, Lent, StripeCall, run}

pub record Job : Type 0 where
  pub frame : Frame
  pub units : List ℤ
  pub deblocked : List ℤ
  pub cdef : List ℤ

-- ---- written. An entry is 16 bits, low byte first
unfoldable pub entry_bytes : List ℕ → List ℕ
entry_bytes [] = []
entry_bytes (n ∷ l) = n % 256 ∷ n / 256 ∷ entry_bytes l

-- a section is the count of its entries, then the entries
abbrev pub section : List ℕ → List ℕ
section l = length l ∷ l

abbrev pub frame_entries : Frame → List ℕ
frame_entries f = f.plane ∷ f.sub_x ∷ f.sub_y ∷ f.depth ∷ f.frame_height ∷ f.upscaled_width ∷ f.unit_size ∷ f.frame_type ∷ []

-- two's complement in the units, unsigned elsewhere
unfoldable pub job_entries : Job → List ℕ
job_entries j = section (frame_entries j.frame) ++ section (map (wrap 65536) j.units) ++ section (map nat_abs j.deblocked) ++ section (map nat_abs j.cdef)

unfoldable pub job_bytes : Job → List ℕ
job_bytes j = entry_bytes (job_entries j)

-- ---- read. `wide` is entry k of the bytes; the sections' counts stand at 0, at 9, and each past the section before it
abbrev pub unit_count : List ℕ → ℕ
unit_count b = wide b 9

abbrev pub deblocked_count : List ℕ → ℕ
deblocked_count b = wide b (10 + unit_count b)

abbrev pub cdef_count : List ℕ → ℕ
cdef_count b = wide b (11 + unit_count b + deblocked_count b)

-- the number that 16 bits stand for in two's complement
unfoldable pub signed16 : ℕ → ℤ
signed16 n = cond (ltb n 32768) (pos n) (pos n -ℤ pos 65536)

unfoldable pub frame_of : List ℕ → Frame
frame_of b = record {
  plane = wide b 1;
  sub_x = wide b 2;
  sub_y = wide b 3;
  depth = wide b 4;
  frame_height = wide b 5;
  upscaled_width = wide b 6;
  unit_size = wide b 7;
  frame_type = wide b 8;
}

unfoldable pub job_of : List ℕ → Job
job_of b = record {
  frame = frame_of b;
  units = listing (unit_count b) (λ k. signed16 (wide b (10 + k)));
  deblocked = listing (deblocked_count b) (λ k. pos (wide b (11 + unit_count b + k)));
  cdef = listing (cdef_count b) (λ k. pos (wide b (12 + unit_count b + deblocked_count b + k)));
}

-- ---- the extra results. 17: the frame count is not 8, or the bytes are not as many as the counts say
unfoldable pub no17 : List ℕ → Bool
no17 b = not (eqb (wide b 0) 8 && eqb (length b) (2 * (12 + unit_count b + deblocked_count b + cdef_count b)))

-- a bound of the job program is passed
unfoldable pub no18 : Job → Bool
no18 j = ltb 8 j.frame.upscaled_width || ltb 128 j.frame.frame_height || ltb 20 (length j.units) || ltb 1024 (length j.deblocked) || ltb 1024 (length j.cdef)

unfoldable pub form_tests : List ℕ → List (ℕ × Bool)
form_tests b = (18, ltb 4160 (length b)) ∷ (17, no17 b) ∷ (18, no18 (job_of b)) ∷ []

-- what the reader answers: the number, or the frame numbers and how many entries each other section has
unfoldable pub sections_of : List ℕ → Sections
sections_of b = record { frame = frame_of b; units = unit_count b; deblocked = deblocked_count b; cdef = cdef_count b }

unfoldable pub open_answer : List ℕ → ℕ × Sections
open_answer b = let n = first (form_tests b) in (n, if_done n (sections_of b) no_sections)

-- what it leaves in the room that is lent for a section: the entries, and past them what was there
unfoldable pub laid : List ℤ → List ℤ → List ℤ
laid l room = l ++ drop (length l) room

unfoldable pub open_room : List ℕ → List ℤ → List ℤ → List ℤ
open_room b l room = if_done (first (form_tests b)) (laid l room) room

-- ---- the job program. After the extra results the table's numbers, of the whole-plane call with the program's scratch
unfoldable pub job_tests : Job → List (ℕ × Bool)
job_tests j = plane_tests j.frame j.units j.deblocked j.cdef (length j.cdef) 6912

unfoldable pub job_number : List ℕ → ℕ
job_number b = first (form_tests b ++ job_tests (job_of b))

-- the restored rows
unfoldable pub job_rows : Job → List ℤ
job_rows j = restored_slice (shape_of j.frame j.units) j.deblocked j.cdef

-- the in-place run: edge rows captured, marks clear, stripe after stripe with the program's scratch and stripe copy
unfoldable pub job_call : Job → ℕ → StripeCall
job_call j s = record {
  frame = j.frame;
  table = j.units;
  edges = captured_slice (sub_y_of j.frame) (plane_height j.frame) (plane_width j.frame) j.deblocked;
  stripe = s;
  scratch = 6912;
  copy = 512;
}

unfoldable pub job_stripes : Job → ℕ
job_stripes j = stripes (sub_y_of j.frame) (plane_height j.frame)

unfoldable pub in_place : Job → ℕ → Lent
in_place j n = run (listing n (job_call j)) (record { plane = j.cdef; marks = replicate (job_stripes j) 0 })

-- the samples by which the in-place run differs
unfoldable pub job_differs : Job → ℕ
job_differs j =
    changed (plane_height j.frame) (plane_width j.frame) (grid (plane_width j.frame) (job_rows j)) (grid (plane_width j.frame) (in_place j (job_stripes j)).plane)

unfoldable pub job_report : Job → Report
job_report j = record {
  plane = j.frame.plane;
  width = plane_width j.frame;
  height = plane_height j.frame;
  stripes = job_stripes j;
  changed = plane_changed j.frame j.units j.deblocked j.cdef;
  differs = job_differs j;
}

unfoldable pub run_answer : List ℕ → ℕ × Report
run_answer b = let n = job_number b in (n, if_done n (job_report (job_of b)) no_report)

unfoldable pub run_rows : List ℕ → List ℤ → List ℤ
run_rows b room = if_done (job_number b) (laid (job_rows (job_of b)) room) room
