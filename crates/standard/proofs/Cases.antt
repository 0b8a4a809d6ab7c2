-- What each call answers, computed by the checker on small cases: counts and a rectangle, capture, upscale, one sample; jobs with the answers
-- of the reference (recorded/jobs.rec), which restore a plane whole and stripe by stripe.
use mathlib.Core.Path.{◌≡◌, refl}
use mathlib.Core.Bool.{true, false}
use mathlib.Core.List.{List, [], ◌∷◌, ◌++◌, map}
use Prim.Native.Nat.{ℕ, zero, suc, ◌+◌, ◌/◌, ◌%◌}
use lib.IntN.{ℤ, pos, negsuc}
use lib.ListN.{length, take, drop, replicate, set}
use Rattle.laws.specs.Lists.{listing}
use Rattle.std.specs.Prelude.{Err}
use Rattle.standard.specs.declared.Refusal.{Refusal}
use Rattle.standard.specs.declared.Refusal.TheVariants.{ShortScratch}
use Rattle.standard.specs.declared.JobRefusal.TheVariants.{NoJob, OverBound, Table}
use Rattle.standard.specs.declared.Frame.{Frame}
use Rattle.standard.specs.declared.Scaling.{Scaling}
use Rattle.standard.specs.declared.Geometry.{Geometry}
use Rattle.standard.specs.declared.Kind.{Kind}
use Rattle.standard.specs.declared.Kind.TheVariants.{None, Wiener, SelfGuided}
use Rattle.standard.specs.declared.Depth.TheVariants.{Eight, Ten, Twelve}
use Rattle.standard.specs.Depths.{bits, r0, r1, largest, offset, limit}
use Rattle.standard.specs.SelfGuided.{sgr, scale}
use Rattle.standard.specs.UpscaleFilter.{up_tap}
use Rattle.standard.specs.Superres.{step}
use Rattle.standard.specs.Stripes.{stripe_start_y_of, stripe_end_y_of, rectangles, left, right, rectangle, block}
use Rattle.standard.specs.Planes.{above, below, edges}
use Rattle.standard.specs.Refusals.{first, scratch_need, copy_need, wide, plane_tests, capture_tests, count_tests, rectangle_tests, upscale_tests, same_shape, scaling_shape, sample_tests}
use Rattle.standard.specs.Answers.{refusal_number, job_refusal_number, of_restored, of_counted, of_placed, no_counts, nowhere, no_frame, no_sections, no_report}
use Rattle.standard.specs.Calls.{shape_of, plane_changed, plane_answer, plane_out, capture_edges, own_rows, stripe_call_number, counts_of, count_answer, rectangle_answer, upscaled_slice, upscale_out, byte_window, sample_answer}
use Rattle.standard.specs.Job.{Job, entry_bytes, job_entries, job_bytes, signed16, frame_of, job_of, no17, no18, form_tests, sections_of, open_answer, laid, open_room, job_tests, job_number, job_rows, job_call, job_stripes, in_place, job_differs, job_report, run_answer, run_rows}
use Rattle.standard.proofs.Opened.{opened}

-- plane, sub_x, sub_y, depth, height, width, size, type
frame : ℕ → ℕ → ℕ → ℕ → ℕ → ℕ → ℕ → ℕ → Frame
frame p sx sy d h w size type = record { plane = p; sub_x = sx; sub_y = sy; depth = d; frame_height = h; upscaled_width = w; unit_size = size; frame_type = type }

scale_of : ℕ → ℕ → ℕ
scale_of zero eps = 0
scale_of (suc r) eps = scale (suc r) eps

kind_number : Kind → ℕ
kind_number None = 0
kind_number (Wiener _) = 1
kind_number (SelfGuided _) = 2

-- entries of these types, and zeros
flat_table : List ℕ → List ℤ
flat_table [] = []
flat_table (type ∷ l) = pos type ∷ replicate 9 (pos 0) ++ flat_table l

-- ---- jobs
unfoldable job_opened : ℕ
unfolding entry_bytes job_entries job_bytes signed16 frame_of job_of no17 no18 form_tests sections_of open_answer laid open_room job_tests job_number job_rows job_call job_stripes in_place job_differs job_report run_answer run_rows wide plane_tests plane_changed no_frame no_sections no_report
job_opened = 0

-- one row of seven columns: case B of document 01
small : Job
small = record {
  frame = frame 0 0 0 8 1 7 64 1;
  units = pos 1 ∷ pos 3 ∷ negsuc 6 ∷ pos 15 ∷ pos 3 ∷ negsuc 6 ∷ pos 15 ∷ pos 0 ∷ pos 0 ∷ pos 0 ∷ [];
  deblocked = map pos (0 ∷ 0 ∷ 0 ∷ 0 ∷ 0 ∷ 0 ∷ 0 ∷ []);
  cdef = map pos (0 ∷ 0 ∷ 0 ∷ 100 ∷ 0 ∷ 0 ∷ 0 ∷ []);
}

small_report : run_answer (job_bytes small) ≡ (0, record { plane = 0; width = 7; height = 1; stripes = 1; changed = 5; differs = 0 })
unfolding small frame job_opened opened
small_report = refl

small_rows : run_rows (job_bytes small) (replicate 8 (negsuc 0))
    ≡ map pos (2 ∷ 0 ∷ 12 ∷ 83 ∷ 12 ∷ 0 ∷ 2 ∷ []) ++ (negsuc 0 ∷ [])
unfolding small frame job_opened opened
small_rows = refl

small_bytes : job_bytes small
    ≡ 8 ∷ 0 ∷ 0 ∷ 0 ∷ 0 ∷ 0 ∷ 0 ∷ 0 ∷ 8 ∷ 0 ∷ 1 ∷ 0 ∷ 7 ∷ 0 ∷ 64 ∷ 0 ∷ 1 ∷ 0 ∷ 10 ∷ 0 ∷ 1 ∷ 0 ∷ 3 ∷ 0 ∷ 249 ∷ 255 ∷ 15 ∷ 0 ∷ 3 ∷ 0 ∷ 249 ∷ 255 ∷ 15 ∷ 0 ∷ 0 ∷ 0 ∷ 0 ∷ 0 ∷ 0 ∷ 0 ∷ 7 ∷ 0 ∷ 0 ∷ 0 ∷ 0 ∷ 0 ∷ 0 ∷ 0 ∷ 0 ∷ 0 ∷ 0 ∷ 0 ∷ 0 ∷ 0 ∷ 0 ∷ 0 ∷ 7 ∷ 0 ∷ 0 ∷ 0 ∷ 0 ∷ 0 ∷ 0 ∷ 0 ∷ 100 ∷ 0 ∷ 0 ∷ 0 ∷ 0 ∷ 0 ∷ 0 ∷ 0 ∷ []
unfolding small frame job_opened opened
small_bytes = refl

-- what the reader answers and lays down
small_read : open_answer (job_bytes small) ≡ (0, record { frame = frame 0 0 0 8 1 7 64 1; units = 10; deblocked = 7; cdef = 7 })
unfolding small frame job_opened opened
small_read = refl

small_room : open_room (job_bytes small) (pos 1 ∷ pos 2 ∷ []) (pos 3 ∷ pos 4 ∷ pos 5 ∷ []) ∷ open_room [] (pos 1 ∷ pos 2 ∷ []) (pos 3 ∷ pos 4 ∷ pos 5 ∷ []) ∷ []
    ≡ (pos 1 ∷ pos 2 ∷ pos 5 ∷ []) ∷ (pos 3 ∷ pos 4 ∷ pos 5 ∷ []) ∷ []
unfolding small frame job_opened opened
small_room = refl

-- a byte too many, a byte too few, nine frame numbers, a plane count that is one more
no_job : map job_number ((job_bytes small ++ (0 ∷ [])) ∷ take 71 (job_bytes small) ∷ (9 ∷ drop 1 (job_bytes small)) ∷ (take 40 (job_bytes small) ++ (8 ∷ drop 41 (job_bytes small))) ∷ [] ∷ []) ≡ 17 ∷ 17 ∷ 17 ∷ 17 ∷ 17 ∷ []
unfolding small frame job_opened opened
no_job = refl

-- refused: zeros beside the number, and the room as it was
refused_read : open_answer [] ≡ (17, record { frame = frame 0 0 0 0 0 0 0 0; units = 0; deblocked = 0; cdef = 0 })
unfolding frame job_opened opened
refused_read = refl

refused_run : run_answer [] ≡ (17, record { plane = 0; width = 0; height = 0; stripes = 0; changed = 0; differs = 0 })
unfolding job_opened opened
refused_run = refl

refused_rows : run_rows [] (pos 3 ∷ []) ≡ pos 3 ∷ []
unfolding job_opened opened
refused_rows = refl

-- frame, units, deblocked, CDEF: the numbers, how many
sized : Frame → ℕ → ℕ → ℕ → Job
sized f u d c = record { frame = f; units = replicate u (pos 0); deblocked = replicate d (pos 0); cdef = replicate c (pos 0) }

-- the reader does not ask whether the counts fit the frame
uneven_read : open_answer (job_bytes (sized (frame 0 0 0 8 1 7 64 1) 3 8 7)) ≡ (0, record { frame = frame 0 0 0 8 1 7 64 1; units = 3; deblocked = 8; cdef = 7 })
unfolding sized frame job_opened opened
uneven_read = refl

-- the bounds, each at its end and past it
bounds : map no18 (sized (frame 0 0 0 8 128 8 64 1) 20 1024 1024 ∷ sized (frame 0 0 0 8 129 8 64 1) 0 0 0 ∷ sized (frame 0 0 0 8 128 9 64 1) 0 0 0 ∷
    sized (frame 0 0 0 8 1 1 64 1) 21 0 0 ∷ sized (frame 0 0 0 8 1 1 64 1) 0 1025 0 ∷ sized (frame 0 0 0 8 1 1 64 1) 0 0 1025 ∷ [])
    ≡ false ∷ true ∷ true ∷ true ∷ true ∷ true ∷ []
unfolding sized frame job_opened opened
bounds = refl

-- 18 by the length before 17, 17 before 18 by the counts, 18 before the table's
form_order : first (form_tests (replicate 4161 0)) ∷ first (form_tests (replicate 4160 0)) ∷ first (form_tests (take 23 (job_bytes (sized (frame 3 0 0 9 1 9 64 1) 0 0 0)))) ∷
    job_number (job_bytes (sized (frame 3 0 0 9 1 9 64 1) 0 0 0)) ∷ job_number (job_bytes (sized (frame 3 0 0 9 1 8 64 1) 0 0 0)) ∷ job_number (job_bytes (sized (frame 0 0 0 8 1 8 64 1) 0 8 7)) ∷ job_number (job_bytes (sized (frame 0 0 0 8 1 8 64 1) 0 8 8)) ∷ []
    ≡ 18 ∷ 17 ∷ 17 ∷ 18 ∷ 1 ∷ 7 ∷ 10 ∷ []
unfolding sized frame job_opened opened
form_order = refl

-- scratch and copy of the program are what its largest plane wants
program_scratch : (j : Job) (s : ℕ) → (job_call j s).scratch ∷ (job_call j s).copy ∷ [] ≡ scratch_need 0 128 8 ∷ copy_need 0 128 8 ∷ []
unfolding job_call scratch_need copy_need
program_scratch j s = refl

program_tests : (j : Job) → job_tests j ≡ plane_tests j.frame j.units j.deblocked j.cdef (length j.cdef) (scratch_need 0 128 8)
unfolding job_tests scratch_need
program_tests j = refl

-- three columns of seven rows, Wiener
columns : Job
columns = record {
  frame = frame 1 1 0 8 7 6 64 2;
  units = pos 1 ∷ negsuc 1 ∷ negsuc 1 ∷ negsuc 0 ∷ pos 4 ∷ negsuc 0 ∷ pos 17 ∷ pos 1272 ∷ negsuc 17563 ∷ pos 12430 ∷ [];
  deblocked = map pos (114 ∷ 107 ∷ 113 ∷ 92 ∷ 103 ∷ 109 ∷ 123 ∷ 92 ∷ 99 ∷ 112 ∷ 124 ∷ 119 ∷ 96 ∷ 96 ∷ 108 ∷ 103 ∷ 107 ∷ 102 ∷ 92 ∷ 101 ∷ 91 ∷ []);
  cdef = map pos (113 ∷ 106 ∷ 117 ∷ 96 ∷ 99 ∷ 109 ∷ 121 ∷ 93 ∷ 98 ∷ 116 ∷ 126 ∷ 116 ∷ 92 ∷ 94 ∷ 105 ∷ 104 ∷ 109 ∷ 98 ∷ 91 ∷ 105 ∷ 93 ∷ []);
}

columns_report : run_answer (job_bytes columns) ≡ (0, record { plane = 1; width = 3; height = 7; stripes = 1; changed = 19; differs = 0 })
unfolding columns frame job_opened opened
columns_report = refl

columns_rows : run_rows (job_bytes columns) (replicate 22 (negsuc 0))
    ≡ map pos (112 ∷ 109 ∷ 116 ∷ 96 ∷ 100 ∷ 107 ∷ 118 ∷ 98 ∷ 97 ∷ 118 ∷ 124 ∷ 118 ∷ 92 ∷ 95 ∷ 103 ∷ 105 ∷ 107 ∷ 100 ∷ 92 ∷ 101 ∷ 94 ∷ []) ++ (negsuc 0 ∷ [])
unfolding columns frame job_opened opened
columns_rows = refl

-- one column of 52 rows in two stripes
tall : Job
tall = record {
  frame = frame 2 1 1 8 103 2 128 1;
  units = pos 1 ∷ pos 0 ∷ pos 8 ∷ pos 28 ∷ pos 0 ∷ negsuc 14 ∷ pos 12 ∷ negsuc 9788 ∷ negsuc 30878 ∷ negsuc 5668 ∷ [];
  deblocked = map pos (0 ∷ 0 ∷ 255 ∷ 255 ∷ 0 ∷ 255 ∷ 255 ∷ 0 ∷ 0 ∷ 255 ∷ 255 ∷ 255 ∷ 0 ∷ 255 ∷ 255 ∷ 0 ∷ 0 ∷ 0 ∷ 0 ∷ 255 ∷ 255 ∷ 255 ∷ 0 ∷ 255 ∷ 0 ∷ 0 ∷ 255 ∷ 255 ∷ 255 ∷ 0 ∷ 0 ∷ 0 ∷ 0 ∷ 255 ∷ 0 ∷ 255 ∷ 255 ∷ 255 ∷ 255 ∷ 0 ∷ 0 ∷ 255 ∷ 0 ∷ 0 ∷ 0 ∷ 255 ∷ 0 ∷ 255 ∷ 255 ∷ 0 ∷ 0 ∷ 255 ∷ []);
  cdef = map pos (255 ∷ 255 ∷ 255 ∷ 255 ∷ 0 ∷ 0 ∷ 0 ∷ 0 ∷ 255 ∷ 255 ∷ 255 ∷ 255 ∷ 0 ∷ 0 ∷ 0 ∷ 0 ∷ 255 ∷ 255 ∷ 255 ∷ 255 ∷ 0 ∷ 0 ∷ 0 ∷ 0 ∷ 255 ∷ 255 ∷ 255 ∷ 255 ∷ 0 ∷ 0 ∷ 0 ∷ 0 ∷ 255 ∷ 255 ∷ 255 ∷ 255 ∷ 0 ∷ 0 ∷ 0 ∷ 0 ∷ 255 ∷ 255 ∷ 255 ∷ 255 ∷ 0 ∷ 0 ∷ 0 ∷ 0 ∷ 255 ∷ 255 ∷ 255 ∷ 255 ∷ []);
}

tall_report : run_answer (job_bytes tall) ≡ (0, record { plane = 2; width = 1; height = 52; stripes = 2; changed = 47; differs = 0 })
unfolding tall frame job_opened opened
tall_report = refl

tall_rows : run_rows (job_bytes tall) (replicate 53 (negsuc 0))
    ≡ map pos (255 ∷ 255 ∷ 239 ∷ 183 ∷ 72 ∷ 16 ∷ 16 ∷ 72 ∷ 183 ∷ 239 ∷ 239 ∷ 183 ∷ 72 ∷ 16 ∷ 16 ∷ 72 ∷ 183 ∷ 239 ∷ 239 ∷ 183 ∷ 72 ∷ 16 ∷ 16 ∷ 72 ∷ 183 ∷ 239 ∷ 255 ∷ 239 ∷ 72 ∷ 16 ∷ 16 ∷ 72 ∷ 183 ∷ 239 ∷ 239 ∷ 183 ∷ 72 ∷ 16 ∷ 16 ∷ 72 ∷ 183 ∷ 239 ∷ 239 ∷ 183 ∷ 72 ∷ 16 ∷ 16 ∷ 72 ∷ 183 ∷ 239 ∷ 255 ∷ 255 ∷ []) ++ (negsuc 0 ∷ [])
unfolding tall frame job_opened opened
tall_rows = refl

-- self-guided, set 3, 10 bits
guided10 : Job
guided10 = record {
  frame = frame 1 1 0 10 2 7 64 3;
  units = pos 2 ∷ pos 31095 ∷ negsuc 11430 ∷ pos 3910 ∷ negsuc 24652 ∷ pos 13709 ∷ negsuc 16861 ∷ pos 3 ∷ negsuc 94 ∷ negsuc 30 ∷ [];
  deblocked = map pos (257 ∷ 259 ∷ 265 ∷ 259 ∷ 259 ∷ 264 ∷ 262 ∷ 264 ∷ []);
  cdef = map pos (248 ∷ 309 ∷ 511 ∷ 276 ∷ 460 ∷ 256 ∷ 359 ∷ 474 ∷ []);
}

guided10_rows : run_rows (job_bytes guided10) (replicate 9 (negsuc 0))
    ≡ map pos (249 ∷ 308 ∷ 511 ∷ 276 ∷ 459 ∷ 256 ∷ 360 ∷ 474 ∷ []) ++ (negsuc 0 ∷ [])
unfolding guided10 frame job_opened opened
guided10_rows = refl

-- self-guided, set 0, 12 bits
guided12 : Job
guided12 = record {
  frame = frame 2 1 1 12 7 4 32 1;
  units = pos 2 ∷ pos 0 ∷ pos 0 ∷ pos 0 ∷ pos 0 ∷ pos 0 ∷ pos 0 ∷ pos 0 ∷ pos 31 ∷ pos 95 ∷ [];
  deblocked = map pos (4049 ∷ 4095 ∷ 4095 ∷ 4049 ∷ 4049 ∷ 4095 ∷ 4095 ∷ 4049 ∷ []);
  cdef = map pos (570 ∷ 358 ∷ 401 ∷ 526 ∷ 345 ∷ 440 ∷ 295 ∷ 299 ∷ []);
}

guided12_rows : run_rows (job_bytes guided12) (replicate 9 (negsuc 0))
    ≡ map pos (563 ∷ 363 ∷ 402 ∷ 518 ∷ 347 ∷ 435 ∷ 300 ∷ 304 ∷ []) ++ (negsuc 0 ∷ [])
unfolding guided12 frame job_opened opened
guided12_rows = refl

-- ---- numbers: 17 and 18 before the table's; zeros beside a refusal
job_numbers : map job_refusal_number (NoJob ∷ OverBound ∷ Table ShortScratch ∷ []) ≡ 17 ∷ 18 ∷ 16 ∷ []
unfolding job_refusal_number refusal_number
job_numbers = refl

zeros : (why : Refusal) → ((of_restored (Err why)).1 ≡ 0) × ((of_counted (Err why)).1 ≡ no_counts) × ((of_placed (Err why)).1 ≡ nowhere)
zeros why = (refl, refl, refl)

-- ---- what belongs to a depth
depths : map (λ d. bits d ∷ r0 d ∷ r1 d ∷ largest d ∷ offset d ∷ limit d ∷ []) (Eight ∷ Ten ∷ Twelve ∷ [])
    ≡ (8 ∷ 3 ∷ 11 ∷ 255 ∷ 2048 ∷ 8191 ∷ []) ∷ (10 ∷ 3 ∷ 11 ∷ 1023 ∷ 8192 ∷ 32767 ∷ []) ∷ (12 ∷ 5 ∷ 9 ∷ 4095 ∷ 8192 ∷ 32767 ∷ []) ∷ []
depths = refl

-- ---- self-guided: s of each set's passes, 0 where a pass is left out
passes : listing 16 (λ set. (sgr set).0 ∷ scale_of (sgr set).0 (sgr set).1 ∷ (sgr set).2 ∷ scale_of (sgr set).2 (sgr set).3 ∷ [])
    ≡ (2 ∷ 140 ∷ 1 ∷ 3236 ∷ []) ∷ (2 ∷ 112 ∷ 1 ∷ 2158 ∷ []) ∷ (2 ∷ 93 ∷ 1 ∷ 1618 ∷ []) ∷ (2 ∷ 80 ∷ 1 ∷ 1438 ∷ []) ∷ (2 ∷ 70 ∷ 1 ∷ 1295 ∷ []) ∷ (2 ∷ 58 ∷ 1 ∷ 1177 ∷ []) ∷
    (2 ∷ 47 ∷ 1 ∷ 1079 ∷ []) ∷ (2 ∷ 37 ∷ 1 ∷ 996 ∷ []) ∷ (2 ∷ 30 ∷ 1 ∷ 925 ∷ []) ∷ (2 ∷ 25 ∷ 1 ∷ 863 ∷ []) ∷ (0 ∷ 0 ∷ 1 ∷ 2589 ∷ []) ∷ (0 ∷ 0 ∷ 1 ∷ 1618 ∷ []) ∷
    (0 ∷ 0 ∷ 1 ∷ 1177 ∷ []) ∷ (0 ∷ 0 ∷ 1 ∷ 925 ∷ []) ∷ (2 ∷ 56 ∷ 0 ∷ 0 ∷ []) ∷ (2 ∷ 22 ∷ 0 ∷ 0 ∷ []) ∷ []
unfolding scale_of opened
passes = refl

-- ---- the calls
-- 65 rows by 100 columns: units of 32, three stripes; 5 is the last column of the second stripe
subsampled : Frame
subsampled = frame 1 1 1 8 130 200 32 1

counted : count_answer subsampled ≡ (0, record { unit_rows = 2; unit_cols = 3; stripes = 3; rectangles = 9 })
unfolding subsampled frame count_answer counts_of count_tests rectangles opened
counted = refl

counted_refused : count_answer (frame 3 0 0 8 1 1 64 1) ≡ (2, record { unit_rows = 0; unit_cols = 0; stripes = 0; rectangles = 0 })
unfolding frame count_answer count_tests no_counts opened
counted_refused = refl

fifth : rectangle_answer subsampled 5 ≡ (0, record { unit_row = 1; unit_col = 2; x = 64; y = 28; w = 36; h = 32; stripe_start_y = pos 28; stripe_end_y = pos 59; plane_end_x = pos 99; plane_end_y = pos 64 })
unfolding subsampled frame rectangle_answer rectangle rectangle_tests rectangles left right stripe_start_y_of stripe_end_y_of opened
fifth = refl

top : rectangle_answer subsampled 1 ≡ (0, record { unit_row = 0; unit_col = 1; x = 32; y = 0; w = 32; h = 28; stripe_start_y = negsuc 3; stripe_end_y = pos 27; plane_end_x = pos 99; plane_end_y = pos 64 })
unfolding subsampled frame rectangle_answer rectangle rectangle_tests rectangles left right stripe_start_y_of stripe_end_y_of opened
top = refl

nowhere_refused : rectangle_answer subsampled 9 ≡ (13, record { unit_row = 0; unit_col = 0; x = 0; y = 0; w = 0; h = 0; stripe_start_y = pos 0; stripe_end_y = pos 0; plane_end_x = pos 0; plane_end_y = pos 0 })
unfolding subsampled frame rectangle_answer rectangle_tests rectangles nowhere opened
nowhere_refused = refl

-- which unit a table gives a place: three unit columns; frame type 0
kinds : ℕ → List ℕ
kinds type = let f = frame 1 1 1 8 130 200 32 type in
    listing 6 (λ n. kind_number ((shape_of f (flat_table (0 ∷ 1 ∷ 2 ∷ 2 ∷ 0 ∷ 1 ∷ []))).unit (n / 3) (n % 3)))

units_of : kinds 1 ∷ kinds 0 ∷ [] ≡ (0 ∷ 1 ∷ 2 ∷ 2 ∷ 0 ∷ 1 ∷ []) ∷ replicate 6 0 ∷ []
unfolding kinds kind_number flat_table frame opened
units_of = refl

-- the whole plane: the slice, and where it is refused what was there
plane_done : plane_out small.frame small.units small.deblocked small.cdef (replicate 7 (pos 9)) 810 ∷ plane_out small.frame small.units small.deblocked small.cdef (replicate 7 (pos 9)) 809 ∷ []
    ≡ map pos (2 ∷ 0 ∷ 12 ∷ 83 ∷ 12 ∷ 0 ∷ 2 ∷ []) ∷ replicate 7 (pos 9) ∷ []
unfolding small frame plane_out plane_tests opened
plane_done = refl

plane_refused : plane_answer small.frame small.units small.deblocked small.cdef 7 809 ≡ (16, 0)
unfolding small frame plane_answer plane_tests opened
plane_refused = refl

-- 57 rows by 2 columns: rows 54, 55, 56, and 56 again, where the plane ends
captured : capture_edges (frame 1 1 0 8 57 4 64 1) (listing 114 pos) (replicate 8 (pos 9)) ∷ capture_edges (frame 1 1 0 8 57 4 64 1) (listing 114 pos) (replicate 7 (pos 9)) ∷ []
    ≡ map pos (108 ∷ 109 ∷ 110 ∷ 111 ∷ 112 ∷ 113 ∷ 112 ∷ 113 ∷ []) ∷ replicate 7 (pos 9) ∷ []
unfolding frame capture_edges capture_tests opened
captured = refl

-- value J in the first of two rows of a subsampled plane, with two columns that are not read; a copy; refused
scaling : ℕ → ℕ → Scaling
scaling upscaled flag =
    record { plane = 1; sub_x = 1; sub_y = 1; depth = 8; frame_width = 16; upscaled_width = upscaled; frame_height = 4; use_superres = flag; in_rows = 2; in_cols = 10; out_rows = 2; out_cols = 16 }

input : List ℤ
input = map pos (0 ∷ 0 ∷ 0 ∷ 0 ∷ 128 ∷ 128 ∷ 128 ∷ 128 ∷ 255 ∷ 255 ∷ []) ++ map pos (9 ∷ 9 ∷ 9 ∷ 9 ∷ 9 ∷ 9 ∷ 9 ∷ 9 ∷ 255 ∷ 255 ∷ [])

upscaled_rows : upscale_out (scaling 32 1) input (replicate 32 (pos 7)) ∷ upscaled_slice (scaling 32 0) input ∷ upscale_out (scaling 32 1) input (replicate 3 (pos 7)) ∷ []
    ≡ (map pos (0 ∷ 0 ∷ 0 ∷ 3 ∷ 4 ∷ 0 ∷ 0 ∷ 29 ∷ 99 ∷ 141 ∷ 137 ∷ 124 ∷ 125 ∷ 129 ∷ 129 ∷ 128 ∷ []) ++ replicate 16 (pos 9)) ∷ input ∷ replicate 3 (pos 7) ∷ []
unfolding scaling input upscale_out upscaled_slice upscale_tests same_shape scaling_shape opened
upscaled_rows = refl

-- a step is rounded to the nearest: 11915 and 7 of 11, 14043 and 3 of 7. Outside its table a tap is 0
steps : step 8 11 ∷ step 6 7 ∷ [] ≡ 11916 ∷ 14043 ∷ []
unfolding opened
steps = refl

no_taps : up_tap 64 3 ∷ up_tap 0 8 ∷ [] ≡ pos 0 ∷ pos 0 ∷ []
unfolding opened
no_taps = refl

-- two rows of 13 columns, of which four are read (recorded/upscale.rec)
wide_rows : Scaling
wide_rows = record { plane = 1; sub_x = 1; sub_y = 0; depth = 10; frame_width = 2; upscaled_width = 4; frame_height = 2; use_superres = 1; in_rows = 2; in_cols = 13; out_rows = 2; out_cols = 2 }

recorded_rows : upscale_out wide_rows (map pos
    (778 ∷ 921 ∷ 765 ∷ 431 ∷ 14 ∷ 921 ∷ 516 ∷ 1017 ∷ 541 ∷ 713 ∷ 262 ∷ 725 ∷ 941 ∷
    550 ∷ 118 ∷ 13 ∷ 963 ∷ 766 ∷ 355 ∷ 478 ∷ 13 ∷ 799 ∷ 195 ∷ 694 ∷ 776 ∷ 672 ∷ [])) (replicate 4 (pos 7))
    ≡ map pos (761 ∷ 814 ∷ 583 ∷ 482 ∷ [])
unfolding wide_rows upscale_out upscaled_slice upscale_tests same_shape scaling_shape opened
recorded_rows = refl

-- one sample of 255 in a window of 0 (recorded/samples.rec, as in Recorded), and refused
window : List ℕ
window = replicate 34 0 ++ (255 ∷ replicate 63 0)

sharp : List ℤ
sharp = pos 1 ∷ pos 10 ∷ pos 8 ∷ pos 46 ∷ negsuc 4 ∷ negsuc 22 ∷ negsuc 16 ∷ pos 0 ∷ pos 0 ∷ pos 0 ∷ []

sampled : sample_answer 8 0 sharp window ∷ sample_answer 9 0 sharp window ∷ sample_answer 8 0 sharp [] ∷ [] ≡ pos 138 ∷ negsuc 0 ∷ negsuc 6 ∷ []
unfolding window sharp sample_answer sample_tests byte_window wide opened
sampled = refl

-- ---- the blocks that the reference derives (recorded/blocks.rec): a last row, a last column, one subsampled across only
placed : ℕ → ℕ → ℕ → ℕ → ℕ → ℕ → ℤ → ℤ → ℤ → ℤ → Geometry
placed ur uc x y w h start stop right bottom =
    record { unit_row = ur; unit_col = uc; x = x; y = y; w = w; h = h; stripe_start_y = start; stripe_end_y = stop; plane_end_x = right; plane_end_y = bottom }

blocks : block 1 1 32 133 112 66 40 ∷ block 1 1 32 260 49 92 24 ∷ block 1 0 64 257 127 64 35 ∷ []
    ≡ placed 3 2 80 132 2 1 (pos 124) (pos 155) (pos 111) (pos 132) ∷ placed 5 1 48 184 1 2 (pos 156) (pos 187) (pos 48) (pos 259) ∷
    placed 3 1 70 256 2 1 (pos 248) (pos 311) (pos 126) (pos 256) ∷ []
unfolding placed block stripe_start_y_of stripe_end_y_of opened
blocks = refl

-- ---- what a stripe reads. Two boundaries of a plane two columns wide
edge_parts : listing 4 (above 0 130 2 (listing 16 pos)) ++ listing 3 (below 0 130 2 (listing 16 pos))
    ≡ [] ∷ map pos (0 ∷ 1 ∷ 2 ∷ 3 ∷ []) ∷ map pos (8 ∷ 9 ∷ 10 ∷ 11 ∷ []) ∷ [] ∷ map pos (4 ∷ 5 ∷ 6 ∷ 7 ∷ []) ∷ map pos (12 ∷ 13 ∷ 14 ∷ 15 ∷ []) ∷ [] ∷ []
unfolding opened
edge_parts = refl

edge_cells : listing 16 (λ n. edges 2 (listing 16 pos) (n / 8 + 1) (n / 2 % 4) (n % 2)) ≡ listing 16 (λ n. n)
unfolding opened
edge_cells = refl

-- 65 rows by one column of a subsampled plane: stripes of 28, 32 and 5 rows
column : Frame
column = frame 1 1 1 8 130 2 64 0

own : own_rows column (listing 65 pos) 0 ∷ own_rows column (listing 65 pos) 1 ∷ own_rows column (listing 65 pos) 2 ∷ []
    ≡ listing 28 pos ∷ listing 32 (λ n. pos (28 + n)) ∷ listing 5 (λ n. pos (60 + n)) ∷ []
unfolding column frame opened
own = refl

-- the number of stripe s where one edge sample, or one sample of the plane, is out of range: given by what the stripe reads, and by no other
edge_number : ℕ → ℕ → ℕ
edge_number s n = stripe_call_number (record { frame = column; table = []; edges = set (replicate 8 (pos 0)) n (negsuc 0); stripe = s; scratch = 0; copy = 0 })
    (record { plane = replicate 65 (pos 0); marks = 0 ∷ 0 ∷ 0 ∷ [] })

plane_number : ℕ → ℕ → ℕ
plane_number s n = stripe_call_number (record { frame = column; table = []; edges = replicate 8 (pos 0); stripe = s; scratch = 0; copy = 0 })
    (record { plane = set (replicate 65 (pos 0)) n (negsuc 0); marks = 0 ∷ 0 ∷ 0 ∷ [] })

edge_numbers : listing 3 (λ s. listing 8 (edge_number s))
    ≡ (0 ∷ 0 ∷ 15 ∷ 15 ∷ 0 ∷ 0 ∷ 0 ∷ 0 ∷ []) ∷ (15 ∷ 15 ∷ 0 ∷ 0 ∷ 0 ∷ 0 ∷ 15 ∷ 15 ∷ []) ∷ (0 ∷ 0 ∷ 0 ∷ 0 ∷ 15 ∷ 15 ∷ 0 ∷ 0 ∷ []) ∷ []
unfolding edge_number column frame opened
edge_numbers = refl

plane_numbers : listing 3 (λ s. map (plane_number s) (0 ∷ 27 ∷ 28 ∷ 59 ∷ 60 ∷ 64 ∷ []))
    ≡ (15 ∷ 15 ∷ 0 ∷ 0 ∷ 0 ∷ 0 ∷ []) ∷ (0 ∷ 0 ∷ 15 ∷ 15 ∷ 0 ∷ 0 ∷ []) ∷ (0 ∷ 0 ∷ 0 ∷ 0 ∷ 15 ∷ 15 ∷ []) ∷ []
unfolding plane_number column frame opened
plane_numbers = refl
