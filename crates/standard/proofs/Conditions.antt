-- The table of numbers where it turns: each condition at its edges, each call's numbers in their order. Computed by the checker.
use mathlib.Core.Path.{◌≡◌, refl}
use mathlib.Core.Bool.{Bool, cond}
use mathlib.Core.List.{List, [], ◌∷◌, ◌++◌, map}
use Prim.Native.Nat.{ℕ}
use lib.IntN.{ℤ, pos, negsuc}
use lib.ListN.{replicate}
use Rattle.standard.specs.declared.Frame.{Frame}
use Rattle.standard.specs.declared.Scaling.{Scaling}
use Rattle.standard.specs.Units.{legal_entry}
use Rattle.standard.specs.Refusals.{first, no1, no2, no3, no4, no5, no9, no10, no11, no12, no15, scratch_need, copy_need, plane_tests, capture_tests, stripe_tests, count_tests, rectangle_tests, copies, same_shape, scaling_shape, upscale_tests, wide, sample_tests, plane_width, plane_height, sub_x_of, sub_y_of, down_width, up_width, scaled_height}
use Rattle.standard.specs.Stripes.{rectangles}
use Rattle.standard.proofs.Opened.{opened}

-- those of a list for which a condition holds
given : {A : Type 0} → (A → Bool) → List A → List A
given p [] = []
given p (a ∷ l) = cond (p a) (a ∷ given p l) (given p l)

marks : {A : Type 0} → (A → Bool) → List A → List ℕ
marks p l = map (λ a. cond (p a) 1 0) l

-- ---- one condition
one : given no1 (0 ∷ 7 ∷ 8 ∷ 9 ∷ 10 ∷ 11 ∷ 12 ∷ 13 ∷ []) ≡ 0 ∷ 7 ∷ 9 ∷ 11 ∷ 13 ∷ []
unfolding given opened
one = refl

-- plane, sub_x, sub_y
two : marks (λ (t : ℕ × ℕ × ℕ). no2 t.0 t.1 t.2)
    ((0, 0, 0) ∷ (2, 1, 0) ∷ (1, 1, 1) ∷ (3, 0, 0) ∷ (4, 1, 1) ∷ (1, 0, 1) ∷ (1, 2, 0) ∷ (1, 2, 1) ∷ (1, 1, 2) ∷ (1, 0, 2) ∷ [])
    ≡ 0 ∷ 0 ∷ 0 ∷ 1 ∷ 1 ∷ 1 ∷ 1 ∷ 1 ∷ 1 ∷ 1 ∷ []
unfolding marks opened
two = refl

three : given no3 (0 ∷ 1 ∷ 3 ∷ 4 ∷ []) ≡ 4 ∷ []
unfolding given opened
three = refl

four : given no4 (0 ∷ 1 ∷ 16384 ∷ 16385 ∷ []) ≡ 0 ∷ 16385 ∷ []
unfolding given opened
four = refl

sizes : List ℕ
sizes = 0 ∷ 31 ∷ 32 ∷ 33 ∷ 63 ∷ 64 ∷ 65 ∷ 127 ∷ 128 ∷ 129 ∷ 255 ∷ 256 ∷ 257 ∷ 512 ∷ []

-- 32 is a size of subsampled planes only
five : given (no5 0 1 1) sizes ∷ given (no5 1 1 1) sizes ∷ given (no5 1 1 0) (32 ∷ []) ∷ given (no5 1 0 1) (32 ∷ []) ∷ given (no5 2 1 1) (32 ∷ []) ∷ []
    ≡ (0 ∷ 31 ∷ 32 ∷ 33 ∷ 63 ∷ 65 ∷ 127 ∷ 129 ∷ 255 ∷ 257 ∷ 512 ∷ []) ∷ (0 ∷ 31 ∷ 33 ∷ 63 ∷ 65 ∷ 127 ∷ 129 ∷ 255 ∷ 257 ∷ 512 ∷ []) ∷ (32 ∷ []) ∷ (32 ∷ []) ∷ [] ∷ []
unfolding given sizes opened
five = refl

-- 57 rows are two stripes, 29 of a plane that is subsampled; 96 rows by 200 columns are two by three units
nine : given (no9 0 57 3) (0 ∷ 11 ∷ 12 ∷ 13 ∷ 24 ∷ []) ∷ given (no9 1 29 5) (19 ∷ 20 ∷ 21 ∷ []) ∷ given (no9 0 56 3) (0 ∷ 12 ∷ []) ∷ []
    ≡ (0 ∷ 11 ∷ 13 ∷ 24 ∷ []) ∷ (19 ∷ 21 ∷ []) ∷ (12 ∷ []) ∷ []
unfolding given opened
nine = refl

ten : given (no10 64 96 200) (59 ∷ 60 ∷ 61 ∷ []) ≡ 59 ∷ 61 ∷ []
unfolding given opened
ten = refl

twelve : marks (no12 2) ((0 ∷ 1 ∷ []) ∷ (1 ∷ 1 ∷ []) ∷ (0 ∷ 2 ∷ []) ∷ (2 ∷ 0 ∷ []) ∷ (0 ∷ []) ∷ (0 ∷ 0 ∷ 0 ∷ []) ∷ []) ≡ 0 ∷ 0 ∷ 1 ∷ 1 ∷ 1 ∷ 1 ∷ []
unfolding marks opened
twelve = refl

fifteen : marks (no15 8) ((pos 0 ∷ pos 255 ∷ []) ∷ (pos 0 ∷ pos 256 ∷ []) ∷ (negsuc 0 ∷ pos 0 ∷ []) ∷ []) ++ marks (no15 10) ((pos 1023 ∷ []) ∷ (pos 1024 ∷ []) ∷ [])
    ≡ 0 ∷ 1 ∷ 1 ∷ 0 ∷ 1 ∷ []
unfolding marks opened
fifteen = refl

-- sixteen: W and H, cut and not cut
sixteen : scratch_need 0 1000 1000 ∷ scratch_need 1 1000 383 ∷ scratch_need 0 10 20 ∷ copy_need 0 1000 9 ∷ copy_need 1 1000 9 ∷ copy_need 0 10 9 ∷ []
    ≡ 168912 ∷ 93840 ∷ 3024 ∷ 576 ∷ 288 ∷ 90 ∷ []
unfolding opened
sixteen = refl

-- ---- entries
entry : ℤ → ℤ → ℤ → ℤ → ℤ → ℤ → ℤ → ℤ → ℤ → ℤ → List ℤ
entry a b c d e f g h i j = a ∷ b ∷ c ∷ d ∷ e ∷ f ∷ g ∷ h ∷ i ∷ j ∷ []

none : ℤ → List ℤ
none type = entry type (pos 99) (pos 99) (pos 99) (pos 99) (pos 99) (pos 99) (pos 99) (pos 99) (pos 99)

by_taps : ℤ → ℤ → ℤ → ℤ → ℤ → ℤ → List ℤ
by_taps a b c d e f = entry (pos 1) a b c d e f (pos 99) (pos 99) (pos 99)

by_weights : ℤ → ℤ → ℤ → List ℤ
by_weights set a b = entry (pos 2) (pos 99) (pos 99) (pos 99) (pos 99) (pos 99) (pos 99) set a b

legal : List ℤ → ℕ
legal e = cond (legal_entry 0 (none (pos 0) ++ e) 1) 1 0

types : map legal (none (negsuc 0) ∷ none (pos 0) ∷ none (pos 1) ∷ none (pos 2) ∷ none (pos 3) ∷ []) ≡ 0 ∷ 1 ∷ 0 ∷ 0 ∷ 0 ∷ []
unfolding legal none entry opened
types = refl

-- least, greatest, and each number past its end
taps : map legal
    (by_taps (negsuc 4) (negsuc 22) (negsuc 16) (pos 10) (pos 8) (pos 46) ∷ by_taps (pos 10) (pos 8) (pos 46) (negsuc 4) (negsuc 22) (negsuc 16) ∷
    by_taps (negsuc 5) (pos 0) (pos 0) (pos 0) (pos 0) (pos 0) ∷ by_taps (pos 11) (pos 0) (pos 0) (pos 0) (pos 0) (pos 0) ∷
    by_taps (pos 0) (negsuc 23) (pos 0) (pos 0) (pos 0) (pos 0) ∷ by_taps (pos 0) (pos 9) (pos 0) (pos 0) (pos 0) (pos 0) ∷
    by_taps (pos 0) (pos 0) (negsuc 17) (pos 0) (pos 0) (pos 0) ∷ by_taps (pos 0) (pos 0) (pos 47) (pos 0) (pos 0) (pos 0) ∷
    by_taps (pos 0) (pos 0) (pos 0) (negsuc 5) (pos 0) (pos 0) ∷ by_taps (pos 0) (pos 0) (pos 0) (pos 11) (pos 0) (pos 0) ∷
    by_taps (pos 0) (pos 0) (pos 0) (pos 0) (negsuc 23) (pos 0) ∷ by_taps (pos 0) (pos 0) (pos 0) (pos 0) (pos 9) (pos 0) ∷
    by_taps (pos 0) (pos 0) (pos 0) (pos 0) (pos 0) (negsuc 17) ∷ by_taps (pos 0) (pos 0) (pos 0) (pos 0) (pos 0) (pos 47) ∷ [])
    ≡ 1 ∷ 1 ∷ 0 ∷ 0 ∷ 0 ∷ 0 ∷ 0 ∷ 0 ∷ 0 ∷ 0 ∷ 0 ∷ 0 ∷ 0 ∷ 0 ∷ []
unfolding legal by_taps none entry opened
taps = refl

weights : map legal
    (by_weights (pos 0) (negsuc 95) (negsuc 31) ∷ by_weights (pos 15) (pos 31) (pos 95) ∷ by_weights (pos 16) (pos 0) (pos 0) ∷ by_weights (negsuc 0) (pos 0) (pos 0) ∷
    by_weights (pos 0) (negsuc 96) (pos 0) ∷ by_weights (pos 0) (pos 32) (pos 0) ∷ by_weights (pos 0) (pos 0) (negsuc 32) ∷ by_weights (pos 0) (pos 0) (pos 96) ∷ [])
    ≡ 1 ∷ 1 ∷ 0 ∷ 0 ∷ 0 ∷ 0 ∷ 0 ∷ 0 ∷ []
unfolding legal by_weights none entry opened
weights = refl

-- the entries of a table are all looked at, and no more
eleven : marks (no11 0) ((none (pos 0) ++ none (pos 0)) ∷ (none (pos 0) ++ none (pos 3)) ∷ (none (pos 3) ++ none (pos 0)) ∷ (none (pos 0) ++ (pos 3 ∷ [])) ∷ []) ≡ 0 ∷ 1 ∷ 1 ∷ 0 ∷ []
unfolding marks none entry opened
eleven = refl

-- ---- the calls: at each step the conditions before the number do not hold, and as many as can of those after it do
-- plane, sub_x, sub_y, depth, height, width, size, type
frame : ℕ → ℕ → ℕ → ℕ → ℕ → ℕ → ℕ → ℕ → Frame
frame p sx sy d h w size type = record { plane = p; sub_x = sx; sub_y = sy; depth = d; frame_height = h; upscaled_width = w; unit_size = size; frame_type = type }

-- two rows by three columns; `long` is a table that is illegal, and too long by one number
good : Frame
good = frame 0 1 1 8 2 3 64 1

six : ℤ → List ℤ
six z = z ∷ replicate 5 (pos 0)

long : List ℤ
long = pos 3 ∷ replicate 10 (pos 0)

plane : Frame → List ℤ → List ℤ → List ℤ → ℕ → ℕ → ℕ
plane f table D C out scratch = first (plane_tests f table D C out scratch)

plane_order : plane (frame 3 2 2 9 0 0 63 4) long (negsuc 0 ∷ []) [] 1 0 ∷ plane (frame 3 2 2 8 0 0 63 4) long (negsuc 0 ∷ []) [] 1 0 ∷
    plane (frame 0 1 1 8 0 0 63 4) long (negsuc 0 ∷ []) [] 1 0 ∷ plane (frame 0 1 1 8 0 0 63 3) long (negsuc 0 ∷ []) [] 1 0 ∷
    plane (frame 0 1 1 8 2 3 63 1) long (negsuc 0 ∷ []) [] 1 0 ∷ plane good long (negsuc 0 ∷ []) [] 1 0 ∷ plane good long (six (negsuc 0)) (six (pos 0)) 6 0 ∷
    plane good (none (pos 3)) (six (negsuc 0)) (six (pos 0)) 6 0 ∷ plane good (none (pos 0)) (six (negsuc 0)) (six (pos 0)) 6 0 ∷
    plane good (none (pos 0)) (six (pos 0)) (six (pos 0)) 6 659 ∷ plane good (none (pos 0)) (six (pos 0)) (six (pos 0)) 6 660 ∷ []
    ≡ 1 ∷ 2 ∷ 3 ∷ 4 ∷ 5 ∷ 7 ∷ 10 ∷ 11 ∷ 15 ∷ 16 ∷ 0 ∷ []
unfolding plane frame good six long none entry plane_tests opened
plane_order = refl

-- one side, one length, one plane's samples; with frame type 0 no 5, 10, 11 and 16
plane_parts : plane (frame 0 0 0 8 0 3 64 1) [] [] [] 0 0 ∷ plane (frame 0 0 0 8 2 0 64 1) [] [] [] 0 0 ∷
    plane good [] (pos 0 ∷ []) (six (pos 0)) 6 0 ∷ plane good [] (six (pos 0)) (pos 0 ∷ []) 6 0 ∷ plane good [] (six (pos 0)) (six (pos 0)) 7 0 ∷
    plane good (none (pos 0)) (six (pos 0)) (six (negsuc 0)) 6 0 ∷ plane (frame 0 0 0 8 2 3 63 0) long (six (pos 0)) (six (pos 0)) 6 0 ∷
    plane (frame 1 1 1 8 4 6 32 1) (none (pos 0)) (six (pos 255)) (six (pos 255)) 6 660 ∷ []
    ≡ 4 ∷ 4 ∷ 7 ∷ 7 ∷ 7 ∷ 15 ∷ 0 ∷ 0 ∷ []
unfolding plane frame good six long none entry plane_tests opened
plane_parts = refl

capture : Frame → List ℤ → ℕ → ℕ
capture f D edge = first (capture_tests f D edge)

-- frame type and unit size are not looked at
capture_order : capture (frame 3 2 2 9 0 0 63 4) (negsuc 0 ∷ []) 1 ∷ capture (frame 3 2 2 8 0 0 63 4) (negsuc 0 ∷ []) 1 ∷ capture (frame 0 1 1 8 0 3 63 4) (negsuc 0 ∷ []) 1 ∷
    capture (frame 0 1 1 8 57 1 63 4) (negsuc 0 ∷ []) 1 ∷ capture (frame 0 1 1 8 57 1 63 4) (negsuc 0 ∷ replicate 56 (pos 0)) 1 ∷
    capture (frame 0 1 1 8 57 1 63 4) (negsuc 0 ∷ replicate 56 (pos 0)) 4 ∷ capture (frame 0 1 1 8 57 1 63 4) (replicate 57 (pos 0)) 4 ∷ []
    ≡ 1 ∷ 2 ∷ 4 ∷ 7 ∷ 9 ∷ 15 ∷ 0 ∷ []
unfolding capture frame capture_tests opened
capture_order = refl

tall : ℕ → ℕ → Frame
tall size type = frame 0 1 1 8 57 1 size type

stripe_order : first (stripe_tests (frame 3 2 2 9 0 0 63 4) 9 long 1 1 (2 ∷ []) (negsuc 0 ∷ []) [] [] 0 0) ∷ first (stripe_tests (frame 3 2 2 8 0 0 63 4) 9 long 1 1 (2 ∷ []) (negsuc 0 ∷ []) [] [] 0 0) ∷
    first (stripe_tests (frame 0 1 1 8 0 1 63 4) 9 long 1 1 (2 ∷ []) (negsuc 0 ∷ []) [] [] 0 0) ∷ first (stripe_tests (frame 0 1 1 8 0 1 63 3) 9 long 1 1 (2 ∷ []) (negsuc 0 ∷ []) [] [] 0 0) ∷
    first (stripe_tests (tall 63 1) 9 long 1 1 (2 ∷ []) (negsuc 0 ∷ []) [] [] 0 0) ∷ first (stripe_tests (tall 64 1) 9 long 1 1 (2 ∷ []) (negsuc 0 ∷ []) [] [] 0 0) ∷
    first (stripe_tests (tall 64 1) 9 long 1 57 (2 ∷ []) (negsuc 0 ∷ []) [] [] 0 0) ∷ first (stripe_tests (tall 64 1) 9 long 4 57 (2 ∷ []) (negsuc 0 ∷ []) [] [] 0 0) ∷
    first (stripe_tests (tall 64 1) 9 (none (pos 3)) 4 57 (2 ∷ []) (negsuc 0 ∷ []) [] [] 0 0) ∷ first (stripe_tests (tall 64 1) 9 (none (pos 0)) 4 57 (2 ∷ []) (negsuc 0 ∷ []) [] [] 0 0) ∷
    first (stripe_tests (tall 64 1) 2 (none (pos 0)) 4 57 (0 ∷ 1 ∷ []) (negsuc 0 ∷ []) [] [] 0 0) ∷ first (stripe_tests (tall 64 1) 1 (none (pos 0)) 4 57 (0 ∷ 1 ∷ []) (negsuc 0 ∷ []) [] [] 0 0) ∷
    first (stripe_tests (tall 64 1) 0 (none (pos 0)) 4 57 (0 ∷ 1 ∷ []) (negsuc 0 ∷ []) [] [] 0 0) ∷ first (stripe_tests (tall 64 1) 0 (none (pos 0)) 4 57 (0 ∷ 1 ∷ []) (pos 0 ∷ []) [] [] 3509 57) ∷
    first (stripe_tests (tall 64 1) 0 (none (pos 0)) 4 57 (0 ∷ 1 ∷ []) (pos 0 ∷ []) [] [] 3510 57) ∷ []
    ≡ 1 ∷ 2 ∷ 3 ∷ 4 ∷ 5 ∷ 7 ∷ 9 ∷ 10 ∷ 11 ∷ 12 ∷ 13 ∷ 14 ∷ 15 ∷ 16 ∷ 0 ∷ []
unfolding frame tall long none entry opened
stripe_order = refl

-- samples above, samples below, the copy; frame type 0
stripe_parts : first (stripe_tests (tall 64 1) 0 (none (pos 0)) 4 57 (0 ∷ 1 ∷ []) [] (pos 256 ∷ []) [] 3510 57) ∷ first (stripe_tests (tall 64 1) 0 (none (pos 0)) 4 57 (0 ∷ 1 ∷ []) [] [] (pos 256 ∷ []) 3510 57) ∷
    first (stripe_tests (tall 64 1) 0 (none (pos 0)) 4 57 (0 ∷ 1 ∷ []) [] [] [] 3510 56) ∷ first (stripe_tests (tall 63 0) 0 long 4 57 (0 ∷ 1 ∷ []) [] [] [] 0 0) ∷ []
    ≡ 15 ∷ 15 ∷ 16 ∷ 0 ∷ []
unfolding frame tall long none entry opened
stripe_parts = refl

-- counts and rectangle: depth and type are not looked at. Three stripes of two unit columns
place_order : first (count_tests (frame 3 2 2 9 0 0 63 4)) ∷ first (count_tests (frame 1 1 1 9 0 0 63 4)) ∷ first (count_tests (frame 1 1 1 9 1 1 63 4)) ∷ first (count_tests (frame 1 1 1 9 1 1 64 4)) ∷
    first (rectangle_tests (frame 3 2 2 9 0 0 63 4) 6) ∷ first (rectangle_tests (frame 1 1 1 9 0 0 63 4) 6) ∷ first (rectangle_tests (frame 1 1 1 9 130 200 63 4) 6) ∷
    first (rectangle_tests (frame 1 1 1 9 130 200 64 4) 6) ∷ first (rectangle_tests (frame 1 1 1 9 130 200 64 4) 5) ∷ []
    ≡ 2 ∷ 4 ∷ 5 ∷ 0 ∷ 2 ∷ 4 ∷ 5 ∷ 13 ∷ 0 ∷ []
unfolding frame count_tests rectangle_tests rectangles opened
place_order = refl

-- ---- upscaling
-- plane, sub_x, sub_y, depth; frame width, upscaled width, frame height; the flag; rows and columns in, out
scaling : ℕ → ℕ → ℕ → ℕ → ℕ → ℕ → ℕ → ℕ → ℕ → ℕ → ℕ → ℕ → Scaling
scaling p sx sy d fw uw fh flag ir ic or oc =
    record { plane = p; sub_x = sx; sub_y = sy; depth = d; frame_width = fw; upscaled_width = uw; frame_height = fh; use_superres = flag; in_rows = ir; in_cols = ic; out_rows = or; out_cols = oc }

sides : ℕ → ℕ → ℕ → ℕ → Scaling
sides ir ic or oc = scaling 0 1 1 8 4 6 2 1 ir ic or oc

copy : marks copies (scaling 0 0 0 8 4 6 2 0 0 0 0 0 ∷ scaling 0 0 0 8 4 4 2 1 0 0 0 0 ∷ scaling 0 0 0 8 4 6 2 1 0 0 0 0 ∷ scaling 0 0 0 8 6 4 2 1 0 0 0 0 ∷ scaling 0 0 0 8 4 4 2 0 0 0 0 0 ∷ []) ≡ 1 ∷ 1 ∷ 0 ∷ 0 ∷ 1 ∷ []
unfolding marks scaling opened
copy = refl

same : marks same_shape (sides 2 3 2 3 ∷ sides 2 3 2 4 ∷ sides 2 4 2 3 ∷ sides 2 3 3 3 ∷ sides 3 3 2 3 ∷ []) ≡ 1 ∷ 0 ∷ 0 ∷ 0 ∷ 0 ∷ []
unfolding marks sides scaling same_shape opened
same = refl

wider : marks scaling_shape
    (sides 2 4 2 6 ∷ sides 16384 16392 2 6 ∷ sides 1 4 2 6 ∷ sides 16385 4 2 6 ∷ sides 2 3 2 6 ∷ sides 2 16393 2 6 ∷ sides 2 4 1 6 ∷ sides 2 4 3 6 ∷ sides 2 4 2 5 ∷ sides 2 4 2 7 ∷ [])
    ≡ 1 ∷ 1 ∷ 0 ∷ 0 ∷ 0 ∷ 0 ∷ 0 ∷ 0 ∷ 0 ∷ 0 ∷ []
unfolding marks sides scaling scaling_shape opened
wider = refl

upscale : Scaling → List ℤ → ℕ → ℕ
upscale s input out = first (upscale_tests s input out)

-- 7 columns and 8 are 4 of a subsampled plane: 8
upscale_order : upscale (scaling 3 2 2 9 0 0 0 1 1 1 1 1) [] 0 ∷ upscale (scaling 3 2 2 8 0 0 0 1 1 1 1 1) [] 0 ∷ upscale (scaling 1 1 1 8 0 0 0 1 1 1 1 1) [] 0 ∷
    upscale (scaling 1 1 1 8 8 7 2 1 1 1 1 1) [] 0 ∷ upscale (scaling 1 1 1 8 7 8 2 1 1 4 1 4) (pos 256 ∷ []) 4 ∷
    upscale (scaling 1 1 1 8 7 8 2 1 1 4 1 4) (pos 256 ∷ replicate 3 (pos 0)) 4 ∷ upscale (scaling 1 1 1 8 7 9 2 1 1 4 1 5) (pos 256 ∷ replicate 3 (pos 0)) 5 ∷
    upscale (scaling 1 1 1 8 7 9 2 1 1 4 1 5) (replicate 4 (pos 255)) 5 ∷ []
    ≡ 1 ∷ 2 ∷ 4 ∷ 6 ∷ 7 ∷ 8 ∷ 15 ∷ 0 ∷ []
unfolding upscale scaling upscale_tests same_shape scaling_shape opened
upscale_order = refl

-- each side alone; the flag clear; a copy, and its lengths and shape
upscale_parts : upscale (scaling 0 0 0 8 4 6 0 1 2 4 2 6) [] 0 ∷ upscale (scaling 0 0 0 8 0 6 2 1 2 4 2 6) [] 0 ∷ upscale (scaling 0 0 0 8 4 0 2 1 2 4 2 6) [] 0 ∷
    upscale (scaling 0 0 0 8 8 7 2 0 1 2 1 2) (replicate 2 (pos 0)) 2 ∷ upscale (scaling 0 0 0 8 4 4 2 1 1 2 1 2) (replicate 2 (pos 0)) 2 ∷
    upscale (scaling 0 0 0 8 4 4 2 1 1 2 1 2) (replicate 3 (pos 0)) 2 ∷ upscale (scaling 0 0 0 8 4 4 2 1 1 2 1 2) (replicate 2 (pos 0)) 1 ∷
    upscale (scaling 0 0 0 8 4 4 2 1 1 2 2 1) (replicate 2 (pos 0)) 2 ∷ upscale (scaling 0 0 0 8 1 2 1 1 1 1 2 1) (replicate 1 (pos 0)) 2 ∷
    upscale (scaling 0 0 0 8 4 6 1 1 1 4 1 6) (replicate 5 (pos 0)) 6 ∷ upscale (scaling 0 0 0 8 4 6 1 1 1 4 1 6) (replicate 4 (pos 0)) 5 ∷ []
    ≡ 4 ∷ 4 ∷ 4 ∷ 0 ∷ 0 ∷ 7 ∷ 7 ∷ 7 ∷ 7 ∷ 7 ∷ 7 ∷ []
unfolding upscale scaling upscale_tests same_shape scaling_shape opened
upscale_parts = refl

-- ---- one sample
bytes : ℕ → ℕ → List ℕ
bytes low high = replicate 96 0 ++ (low ∷ high ∷ [])

sample : ℕ → List ℤ → List ℕ → ℕ
sample depth e b = first (sample_tests depth e b)

sample_order : sample 9 (none (pos 3)) (255 ∷ 255 ∷ []) ∷ sample 8 (none (pos 3)) (255 ∷ 255 ∷ []) ∷ sample 8 (none (pos 3)) (bytes 0 1) ∷ sample 8 (none (pos 0)) (bytes 0 1) ∷
    sample 8 (none (pos 0)) (bytes 255 0) ∷ sample 10 (none (pos 0)) (bytes 255 3) ∷ sample 10 (none (pos 0)) (bytes 0 4) ∷ sample 8 (none (pos 0)) (bytes 255 0 ++ (0 ∷ [])) ∷ []
    ≡ 1 ∷ 7 ∷ 11 ∷ 15 ∷ 0 ∷ 0 ∷ 15 ∷ 7 ∷ []
unfolding sample bytes none entry wide sample_tests opened
sample_order = refl

-- ---- what the frame's numbers say of the plane: luma is not subsampled, a half is rounded up
planes : map (λ f. sub_x_of f ∷ sub_y_of f ∷ plane_width f ∷ plane_height f ∷ []) (frame 0 1 1 8 21 31 64 1 ∷ frame 1 1 1 8 21 31 64 1 ∷ frame 2 1 0 8 21 31 64 1 ∷ frame 2 1 1 8 21 31 64 1 ∷ [])
    ≡ (0 ∷ 0 ∷ 31 ∷ 21 ∷ []) ∷ (1 ∷ 1 ∷ 16 ∷ 11 ∷ []) ∷ (1 ∷ 0 ∷ 16 ∷ 21 ∷ []) ∷ (1 ∷ 1 ∷ 16 ∷ 11 ∷ []) ∷ []
unfolding frame opened
planes = refl

scaled : map (λ s. down_width s ∷ up_width s ∷ scaled_height s ∷ []) (scaling 0 1 1 8 21 31 41 1 0 0 0 0 ∷ scaling 1 1 1 8 21 31 41 1 0 0 0 0 ∷ scaling 2 1 0 8 21 31 41 1 0 0 0 0 ∷ scaling 2 1 1 8 21 31 41 1 0 0 0 0 ∷ [])
    ≡ (21 ∷ 31 ∷ 41 ∷ []) ∷ (11 ∷ 16 ∷ 21 ∷ []) ∷ (11 ∷ 16 ∷ 41 ∷ []) ∷ (11 ∷ 16 ∷ 21 ∷ []) ∷ []
unfolding scaling opened
scaled = refl
