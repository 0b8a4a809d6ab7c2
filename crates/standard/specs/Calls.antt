-- What each public call answers and leaves in every lent slice, from its arguments alone. A refused call leaves each slice as it was.
use Rattle.std.specs.Prelude.{cond, List, [], ◌∷◌, ℕ, ◌+◌, ◌-◌, ◌*◌, min, ℤ, pos, neg_ℤ, length, take, drop, set, eqb}
use Rattle.standard.specs.declared.Frame.{Frame}
use Rattle.standard.specs.declared.Scaling.{Scaling}
use Rattle.standard.specs.declared.Counts.{Counts}
use Rattle.standard.specs.declared.Geometry.{Geometry}
use Rattle.standard.specs.declared.Kind.TheVariants.{None}
use Rattle.standard.specs.Depths.{depth_of}
use Rattle.standard.specs.Wiener.{Grid}
use Rattle.standard.specs.Fetch.{restored, Shape, restored_at, changed}
use Rattle.standard.specs.Stripes.{units, stripe_start, stripe_stop, stripes, rectangles, rectangle}
use Rattle.standard.specs.Planes.{grid, tabled, restored_slice, captured_slice, above, below, stripe_slice}
use Rattle.standard.specs.Superres.{upscaled, last_col}
use Rattle.standard.specs.Refusals.{sub_of, sub_y_of, plane_width, plane_height, down_width, up_width, scaled_height, first, plane_tests, capture_tests, stripe_tests, count_tests, rectangle_tests, copies, upscale_tests, wide, sample_tests}
use Rattle.standard.specs.Units.{kind_of}
use Rattle.standard.specs.Answers.{no_counts, nowhere}

-- what is done where the number is 0, what was there before where it is not
abbrev pub if_done {ℓ} : {A : Type ℓ} → ℕ → A → A → A
if_done number done before = cond (eqb number 0) done before

-- the shape of a frame and its unit table. With frame type 0 every unit is none
abbrev pub shape_of : Frame → List ℤ → Shape
shape_of f table = record {
  sy = sub_y_of f;
  size = f.unit_size;
  height = plane_height f;
  width = plane_width f;
  depth = depth_of f.depth;
  unit = λ r c. cond (eqb f.frame_type 0) None (kind_of table (r * units (plane_width f) f.unit_size + c));
}

-- ---- whole plane: number, `changed`, the output slice
unfoldable pub plane_changed : Frame → List ℤ → List ℤ → List ℤ → ℕ
plane_changed f table D C =
    changed (plane_height f) (plane_width f) (restored_at (shape_of f table) (grid (plane_width f) D) (grid (plane_width f) C)) (grid (plane_width f) C)

unfoldable pub plane_answer : Frame → List ℤ → List ℤ → List ℤ → ℕ → ℕ → ℕ × ℕ
plane_answer f table D C out scratch =
    let n = first (plane_tests f table D C out scratch) in (n, if_done n (plane_changed f table D C) 0)

unfoldable pub plane_out : Frame → List ℤ → List ℤ → List ℤ → List ℤ → ℕ → List ℤ
plane_out f table D C out scratch = if_done (first (plane_tests f table D C (length out) scratch)) (restored_slice (shape_of f table) D C) out

-- ---- capture: the edge rows
unfoldable pub capture_edges : Frame → List ℤ → List ℤ → List ℤ
capture_edges f D E = if_done (first (capture_tests f D (length E))) (captured_slice (sub_y_of f) (plane_height f) (plane_width f) D) E

-- ---- one stripe in place: plane and marks
pub record Lent : Type 0 where
  pub plane : List ℤ
  pub marks : List ℕ

-- the rows of stripe s
unfoldable pub own_rows : Frame → List ℤ → ℕ → List ℤ
own_rows f P s = take ((min (plane_height f) (stripe_stop (sub_y_of f) s) - stripe_start (sub_y_of f) s) * plane_width f) (drop (stripe_start (sub_y_of f) s * plane_width f) P)

-- what a call is given beside plane and marks; scratch and copy by their lengths
pub record StripeCall : Type 0 where
  pub frame : Frame
  pub table : List ℤ
  pub edges : List ℤ
  pub stripe : ℕ
  pub scratch : ℕ
  pub copy : ℕ

unfoldable pub stripe_call_number : StripeCall → Lent → ℕ
stripe_call_number c st = first (stripe_tests c.frame c.stripe c.table (length c.edges) (length st.plane) st.marks
    (own_rows c.frame st.plane c.stripe)
    (above (sub_y_of c.frame) (plane_height c.frame) (plane_width c.frame) c.edges c.stripe)
    (below (sub_y_of c.frame) (plane_height c.frame) (plane_width c.frame) c.edges c.stripe)
    c.scratch c.copy)

-- a call that is done: the stripe's rows and its mark, no other
unfoldable pub stripe_done : StripeCall → Lent → Lent
stripe_done c st = record {
  plane = stripe_slice (shape_of c.frame c.table) c.edges c.stripe st.plane;
  marks = set st.marks c.stripe 1;
}

unfoldable pub after_stripe : StripeCall → Lent → Lent
after_stripe c st = if_done (stripe_call_number c st) (stripe_done c st) st

-- calls one after another
unfoldable pub run : List StripeCall → Lent → Lent
run [] st = st
run (c ∷ l) st = run l (after_stripe c st)

-- ---- counts and rectangle
unfoldable pub counts_of : Frame → Counts
counts_of f = record {
  unit_rows = units (plane_height f) f.unit_size;
  unit_cols = units (plane_width f) f.unit_size;
  stripes = stripes (sub_y_of f) (plane_height f);
  rectangles = rectangles (sub_y_of f) f.unit_size (plane_height f) (plane_width f);
}

unfoldable pub count_answer : Frame → ℕ × Counts
count_answer f = let n = first (count_tests f) in (n, if_done n (counts_of f) no_counts)

unfoldable pub rectangle_answer : Frame → ℕ → ℕ × Geometry
rectangle_answer f i =
    let n = first (rectangle_tests f i) in (n, if_done n (rectangle (sub_y_of f) f.unit_size (plane_height f) (plane_width f) i) nowhere)

-- ---- plane upscale: the output slice. Input rows are in_cols long
unfoldable pub upscaled_slice : Scaling → List ℤ → List ℤ
upscaled_slice s input =
    cond (copies s) input
    (tabled (scaled_height s) (up_width s) (λ y x. upscaled (depth_of s.depth) (down_width s) (up_width s) (last_col s.frame_width (sub_of s.plane s.sub_x)) s.in_cols (grid s.in_cols input y) x))

unfoldable pub upscale_out : Scaling → List ℤ → List ℤ → List ℤ
upscale_out s input out = if_done (first (upscale_tests s input (length out))) (upscaled_slice s input) out

-- ---- one sample, from ten numbers and 98 bytes: the sample, or minus the number
unfoldable pub byte_window : List ℕ → Grid
byte_window bytes i j = wide bytes (7 * i + j)

unfoldable pub sample_answer : ℕ → ℕ → List ℤ → List ℕ → ℤ
sample_answer depth row entry bytes =
    let n = first (sample_tests depth entry bytes) in
    if_done n (pos (restored (depth_of depth) row (kind_of entry 0) (byte_window bytes))) (neg_ℤ (pos n))
