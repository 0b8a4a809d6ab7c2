-- The table of numbers: each condition once. A call's number is `first` of its own tests.
use Rattle.std.specs.Prelude.{Bool, cond, not, ◌&&◌, ◌||◌, List, [], ◌∷◌, ℕ, ◌+◌, ◌-◌, ◌*◌, ◌/◌, ◌^◌, min, ℤ, pos, length, get_or, leb, eqb, ltb}
use Rattle.laws.specs.Lists.{all, all_below}
use Rattle.standard.specs.declared.Frame.{Frame}
use Rattle.standard.specs.declared.Scaling.{Scaling}
use Rattle.standard.specs.Arithmetic.{round_ℕ}
use Rattle.standard.specs.Stripes.{units, stripes, rectangles}
use Rattle.standard.specs.Units.{between, legal_entry}

-- ---- what a call's frame numbers say of its plane
-- plane 0 reads the frame's subsampling as 0 (§7.17.1, §7.16)
abbrev pub sub_of : ℕ → ℕ → ℕ
sub_of plane sub = cond (eqb plane 0) 0 sub

-- the plane's extent of a frame's side
abbrev pub extent : ℕ → ℕ → ℕ → ℕ
extent plane sub side = round_ℕ (sub_of plane sub) side

-- ---- of restoration
abbrev pub sub_x_of : Frame → ℕ
sub_x_of f = sub_of f.plane f.sub_x

abbrev pub sub_y_of : Frame → ℕ
sub_y_of f = sub_of f.plane f.sub_y

abbrev pub plane_width : Frame → ℕ
plane_width f = extent f.plane f.sub_x f.upscaled_width

abbrev pub plane_height : Frame → ℕ
plane_height f = extent f.plane f.sub_y f.frame_height

abbrev pub samples : Frame → ℕ
samples f = plane_height f * plane_width f

-- ---- of upscaling: downscaledPlaneW, upscaledPlaneW and planeH (§7.16)
abbrev pub down_width : Scaling → ℕ
down_width s = extent s.plane s.sub_x s.frame_width

abbrev pub up_width : Scaling → ℕ
up_width s = extent s.plane s.sub_x s.upscaled_width

abbrev pub scaled_height : Scaling → ℕ
scaled_height s = extent s.plane s.sub_y s.frame_height

-- ---- tests
-- the first number whose condition holds, or 0
unfoldable pub first : List (ℕ × Bool) → ℕ
first [] = 0
first (p ∷ l) = cond p.1 p.0 (first l)

-- ---- the conditions, by their numbers
unfoldable pub no1 : ℕ → Bool
no1 depth = not (eqb depth 8 || eqb depth 10 || eqb depth 12)

unfoldable pub no2 : ℕ → ℕ → ℕ → Bool
no2 plane sx sy = ltb 2 plane || not (eqb sx 0 && eqb sy 0 || eqb sx 1 && eqb sy 0 || eqb sx 1 && eqb sy 1)

unfoldable pub no3 : ℕ → Bool
no3 type = ltb 3 type

-- one side; 4 is given where one of a call's sides is bad
unfoldable pub no4 : ℕ → Bool
no4 side = eqb side 0 || ltb 16384 side

unfoldable pub no5 : ℕ → ℕ → ℕ → ℕ → Bool
no5 plane sx sy size = not (eqb size 64 || eqb size 128 || eqb size 256 || eqb size 32 && ltb 0 plane && eqb sx 1 && eqb sy 1)

unfoldable pub no9 : ℕ → ℕ → ℕ → ℕ → Bool
no9 sy h w length = not (eqb length (4 * w * (stripes sy h - 1)))

unfoldable pub no10 : ℕ → ℕ → ℕ → ℕ → Bool
no10 size h w length = not (eqb length (10 * units h size * units w size))

unfoldable pub no11 : ℕ → List ℤ → Bool
no11 plane table = not (all_below (length table / 10) (legal_entry plane table))

unfoldable pub no12 : ℕ → List ℕ → Bool
no12 count marks = not (eqb (length marks) count && all (λ m. leb m 1) marks)

-- a sample of s is out of range. Samples are integers as they come
unfoldable pub no15 : ℕ → List ℤ → Bool
no15 depth s = not (all (between (pos 0) (pos (2 ^ depth - 1))) s)

-- W = min(plane width, 383), H = min(plane height, 64 >> sub_y)
unfoldable pub scratch_need : ℕ → ℕ → ℕ → ℕ
scratch_need sy h w = 6 * (min w 383 + 8) * (min h (64 / 2 ^ sy) + 8)

unfoldable pub copy_need : ℕ → ℕ → ℕ → ℕ
copy_need sy h w = w * min h (64 / 2 ^ sy)

-- a condition that frame type 0 does not give
abbrev pub typed : Frame → Bool → Bool
typed f b = ltb 0 f.frame_type && b

-- conditions of a frame that several calls test
abbrev pub frame2 : Frame → ℕ × Bool
frame2 f = (2, no2 f.plane f.sub_x f.sub_y)

abbrev pub frame4 : Frame → ℕ × Bool
frame4 f = (4, no4 f.frame_height || no4 f.upscaled_width)

abbrev pub size5 : Frame → Bool
size5 f = no5 f.plane f.sub_x f.sub_y f.unit_size

-- ---- the calls: each one's tests in its order. out, edge, plane, scratch, copy: lengths of slices whose samples the call does not test
unfoldable pub plane_tests : Frame → List ℤ → List ℤ → List ℤ → ℕ → ℕ → List (ℕ × Bool)
plane_tests f table D C out scratch =
    (1, no1 f.depth) ∷ frame2 f ∷ (3, no3 f.frame_type) ∷ frame4 f ∷ (5, typed f (size5 f)) ∷
    (7, not (eqb (length D) (samples f) && eqb (length C) (samples f) && eqb out (samples f))) ∷
    (10, typed f (no10 f.unit_size (plane_height f) (plane_width f) (length table))) ∷
    (11, typed f (no11 f.plane table)) ∷
    (15, no15 f.depth D || no15 f.depth C) ∷
    (16, typed f (ltb scratch (scratch_need (sub_y_of f) (plane_height f) (plane_width f)))) ∷ []

unfoldable pub capture_tests : Frame → List ℤ → ℕ → List (ℕ × Bool)
capture_tests f D edge =
    (1, no1 f.depth) ∷ frame2 f ∷ frame4 f ∷
    (7, not (eqb (length D) (samples f))) ∷
    (9, no9 (sub_y_of f) (plane_height f) (plane_width f) edge) ∷
    (15, no15 f.depth D) ∷ []

-- own: the stripe's rows; over, under: its `above` and `below` parts
unfoldable pub stripe_tests : Frame → ℕ → List ℤ → ℕ → ℕ → List ℕ → List ℤ → List ℤ → List ℤ → ℕ → ℕ → List (ℕ × Bool)
stripe_tests f s table edge plane marks own over under scratch copy =
    (1, no1 f.depth) ∷ frame2 f ∷ (3, no3 f.frame_type) ∷ frame4 f ∷ (5, typed f (size5 f)) ∷
    (7, not (eqb plane (samples f))) ∷
    (9, no9 (sub_y_of f) (plane_height f) (plane_width f) edge) ∷
    (10, typed f (no10 f.unit_size (plane_height f) (plane_width f) (length table))) ∷
    (11, typed f (no11 f.plane table)) ∷
    (12, no12 (stripes (sub_y_of f) (plane_height f)) marks) ∷
    (13, leb (stripes (sub_y_of f) (plane_height f)) s) ∷
    (14, eqb (get_or marks s 0) 1) ∷
    (15, no15 f.depth own || no15 f.depth over || no15 f.depth under) ∷
    (16, typed f (ltb scratch (scratch_need (sub_y_of f) (plane_height f) (plane_width f)) || ltb copy (copy_need (sub_y_of f) (plane_height f) (plane_width f)))) ∷ []

unfoldable pub count_tests : Frame → List (ℕ × Bool)
count_tests f = frame2 f ∷ frame4 f ∷ (5, size5 f) ∷ []

unfoldable pub rectangle_tests : Frame → ℕ → List (ℕ × Bool)
rectangle_tests f i = frame2 f ∷ frame4 f ∷ (5, size5 f) ∷
    (13, leb (rectangles (sub_y_of f) f.unit_size (plane_height f) (plane_width f)) i) ∷ []

-- flag clear or frame widths equal: a copy
abbrev pub copies : Scaling → Bool
copies s = eqb s.use_superres 0 || eqb s.frame_width s.upscaled_width

unfoldable pub same_shape : Scaling → Bool
same_shape s = eqb s.in_rows s.out_rows && eqb s.in_cols s.out_cols

unfoldable pub scaling_shape : Scaling → Bool
scaling_shape s =
    leb (scaled_height s) s.in_rows && leb s.in_rows 16384 && leb (down_width s) s.in_cols && leb s.in_cols 16392
    && eqb s.out_cols (up_width s) && eqb s.out_rows (scaled_height s)

-- out: the length of the output slice
unfoldable pub upscale_tests : Scaling → List ℤ → ℕ → List (ℕ × Bool)
upscale_tests s input out =
    (1, no1 s.depth) ∷ (2, no2 s.plane s.sub_x s.sub_y) ∷
    (4, no4 s.frame_height || no4 s.frame_width || no4 s.upscaled_width) ∷
    (6, not (eqb s.use_superres 0) && ltb s.upscaled_width s.frame_width) ∷
    (7, not (eqb (length input) (s.in_rows * s.in_cols) && eqb out (s.out_rows * s.out_cols) && cond (copies s) (same_shape s) (scaling_shape s))) ∷
    (8, not (copies s) && leb (up_width s) (down_width s)) ∷
    (15, no15 s.depth input) ∷ []

-- sample k of a window of bytes, low byte first
unfoldable pub wide : List ℕ → ℕ → ℕ
wide bytes k = get_or bytes (2 * k) 0 + 256 * get_or bytes (2 * k + 1) 0

-- entry: ten numbers, read as plane 0's
unfoldable pub sample_tests : ℕ → List ℤ → List ℕ → List (ℕ × Bool)
sample_tests depth entry bytes =
    (1, no1 depth) ∷ (7, not (eqb (length bytes) 98)) ∷ (11, not (legal_entry 0 entry 0)) ∷
    (15, not (all_below 49 (λ k. leb (wide bytes k) (2 ^ depth - 1)))) ∷ []
