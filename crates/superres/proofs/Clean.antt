-- What is known of a call that no test refuses: of its shapes, its samples, and of the plan that is made for it.
use mathlib.Core.Path.{◌≡◌, sym, ◌∙◌, subst}
use mathlib.Core.Bool.{Bool, true, false, cond, not, ◌&&◌}
use mathlib.Core.List.{List}
use Prim.Native.Nat.{ℕ, zero, suc, ◌+◌, ◌-◌, ◌*◌, ◌^◌, ◌≤◌, ◌<◌, min}
use native.Mathlib.Omega.{arith}
use native.Mathlib.Nat.{mul-le-mul_right, le_trans}
use borrow.Author.Tests.{leb-false}
use lib.Dec.{T, eqb, leb, eqb→eq, leb→le, leb-zero}
use lib.IntN.{ℤ, pos, nat_abs}
use lib.Signed.{◌≤ℤ◌, le_z, le_z_yes}
use lib.ListN.{length, get_or}
use Rattle.laws.specs.Congruence.{ap2}
use Rattle.laws.specs.Lists.{all, all_at}
use Rattle.laws.specs.Sizes.{abs_in}
use Rattle.laws.specs.Tests.{and_l, and_r, and_both, not_no}
use Rattle.standard.specs.declared.Depth.{Depth}
use Rattle.standard.specs.declared.Depth.TheVariants.{Eight, Ten, Twelve}
use Rattle.standard.specs.declared.Scaling.{Scaling}
use Rattle.standard.specs.Arithmetic.{round_ℕ}
use Rattle.standard.specs.Depths.{depth_of, largest}
use Rattle.standard.specs.Refusals.{first, upscale_tests, no1, no15, copies, same_shape, scaling_shape, sub_of, extent, scaled_height, down_width, up_width}
use Rattle.standard.specs.Superres.{start, step, last_col}
use Rattle.standard.specs.Units.{between}
use Rattle.standard.proofs.Refusals.{upscale_table}
use Rattle.standard.proofs.Stripes.{Halved, full, half}
use Rattle.standard.proofs.Upscaler.{last_col_lem}
use Rattle.frames.proofs.Conditions.{sub_small}
use Rattle.superres.specs.Scaled.{Fit}
use Rattle.superres.specs.Sides.{Sided}
use Rattle.superres.proofs.Conditions.{sided}
use Rattle.superres.proofs.Laws.{start_small, step_small, place_small}
use Rattle.superres.proofs.Top.{top_is}

pub record Clean (s : Scaling) (input : List ℤ) (out : ℕ) : Type 0 where
  pub depth : no1 s.depth ≡ false
  pub sides : Sided s
  pub in_long : length input ≡ s.in_rows * s.in_cols
  pub out_long : out ≡ s.out_rows * s.out_cols
  pub shape : T (cond (copies s) (same_shape s) (scaling_shape s))
  pub grows : (not (copies s) && leb (up_width s) (down_width s)) ≡ false
  pub range : no15 s.depth input ≡ false

pub clean : (s : Scaling) (input : List ℤ) (out : ℕ) → first (upscale_tests s input out) ≡ 0 → Clean s input out
unfolding upscale_tests
clean s input out e =
    let t = (upscale_table s input out).complete e in
    let a = eqb (length input) (s.in_rows * s.in_cols) in
    let b = eqb out (s.out_rows * s.out_cols) in
    let c = cond (copies s) (same_shape s) (scaling_shape s) in
    let k = not_no (a && b && c) (t 4) in
    record {
      depth = t 0;
      sides = sided s (t 1) (t 2);
      in_long = eqb→eq (length input) (s.in_rows * s.in_cols) (and_l a b (and_l (a && b) c k));
      out_long = eqb→eq out (s.out_rows * s.out_cols) (and_r a b (and_l (a && b) c k));
      shape = and_r (a && b) c k;
      grows = t 5;
      range = t 6;
    }

-- ---- a plane's extents
round_some : (n x : ℕ) → n ≤ 1 → 0 < x → 0 < round_ℕ n x
unfolding round_ℕ
round_some zero x h p = p
round_some (suc zero) x h p = omega arith
round_some (suc (suc n)) x h p = absurd (omega arith)

round_small : (n x : ℕ) → n ≤ 1 → x ≤ 16384 → round_ℕ n x ≤ 16384
unfolding round_ℕ
round_small zero x h p = p
round_small (suc zero) x h p = omega arith
round_small (suc (suc n)) x h p = absurd (omega arith)

pub extent_small : (plane sub side : ℕ) → sub ≤ 1 → side ≤ 16384 → extent plane sub side ≤ 16384
extent_small plane sub side h p = round_small (sub_of plane sub) side (sub_small plane sub 1 h) p

halves : (n : ℕ) → n ≤ 1 → Halved n
halves zero h = full
halves (suc zero) h = half
halves (suc (suc n)) h = absurd (omega arith)

-- ---- samples
pub depth_bright : (d : Depth) → largest d ≤ 4095
depth_bright Eight = omega arith
depth_bright Ten = omega arith
depth_bright Twelve = omega arith

between_is : (m : ℕ) (z : ℤ) → T (between (pos 0) (pos m) z) → (pos 0 ≤ℤ z) × (nat_abs z ≤ m)
between_is m z t =
    let low : pos 0 ≤ℤ z = le_z_yes (and_l (le_z (pos 0) z) (le_z z (pos m)) t) in
    let high : z ≤ℤ pos m = le_z_yes (and_r (le_z (pos 0) z) (le_z z (pos m)) t) in
    (low, omega (arith, abs_in low high))

module _ {s : Scaling} {input : List ℤ} {out : ℕ} (c : Clean s input out) where
  in_range_lem : T (all (between (pos 0) (pos (largest (depth_of s.depth)))) input)
  unfolding no15
  in_range_lem = subst (λ (m : ℕ). T (all (between (pos 0) (pos m)) input)) (sym (top_is s.depth c.depth)) (not_no (all (between (pos 0) (pos (2 ^ s.depth - 1))) input) c.range)

  -- every number of the input, and the 0 past its end, is a sample
  pub sample : (k : ℕ) → (pos 0 ≤ℤ get_or input k (pos 0)) × (nat_abs (get_or input k (pos 0)) ≤ largest (depth_of s.depth))
  sample k = between_is (largest (depth_of s.depth)) (get_or input k (pos 0)) (all_at (between (pos 0) (pos (largest (depth_of s.depth)))) (pos 0) (zero_in (largest (depth_of s.depth))) input in_range_lem k)
    where
      zero_in : (m : ℕ) → T (between (pos 0) (pos m) (pos 0))
      zero_in m = and_both (le_z (pos 0) (pos 0)) (le_z (pos 0) (pos m)) tt (subst T (sym (leb-zero m)) tt)

  -- ---- a copy: equal shapes
  pub copied_long : copies s ≡ true → length input ≡ out
  unfolding same_shape
  copied_long e =
      let t : T (same_shape s) = subst (λ (b : Bool). T (cond b (same_shape s) (scaling_shape s))) e c.shape in
      let r = eqb→eq s.in_rows s.out_rows (and_l (eqb s.in_rows s.out_rows) (eqb s.in_cols s.out_cols) t) in
      let w = eqb→eq s.in_cols s.out_cols (and_r (eqb s.in_rows s.out_rows) (eqb s.in_cols s.out_cols) t) in
      c.in_long ∙ ap2 ◌*◌ r w ∙ sym c.out_long

-- ---- the shapes of a scaling
pub record Shaped (s : Scaling) : Type 0 where
  pub rows : scaled_height s ≤ s.in_rows
  pub cols : down_width s ≤ s.in_cols
  pub wide : s.in_cols ≤ 16392
  pub width : s.out_cols ≡ up_width s
  pub height : s.out_rows ≡ scaled_height s

shaped : (s : Scaling) → T (scaling_shape s) → Shaped s
unfolding scaling_shape
shaped s t =
    let a1 = leb (scaled_height s) s.in_rows in
    let a2 = leb s.in_rows 16384 in
    let a3 = leb (down_width s) s.in_cols in
    let a4 = leb s.in_cols 16392 in
    let a5 = eqb s.out_cols (up_width s) in
    let a6 = eqb s.out_rows (scaled_height s) in
    let t5 = and_l (a1 && a2 && a3 && a4 && a5) a6 t in
    let t4 = and_l (a1 && a2 && a3 && a4) a5 t5 in
    let t3 = and_l (a1 && a2 && a3) a4 t4 in
    let t2 = and_l (a1 && a2) a3 t3 in
    record {
      rows = leb→le (scaled_height s) s.in_rows (and_l a1 a2 t2);
      cols = leb→le (down_width s) s.in_cols (and_r (a1 && a2) a3 t3);
      wide = leb→le s.in_cols 16392 (and_r (a1 && a2 && a3) a4 t4);
      width = eqb→eq s.out_cols (up_width s) (and_r (a1 && a2 && a3 && a4) a5 t5);
      height = eqb→eq s.out_rows (scaled_height s) (and_r (a1 && a2 && a3 && a4 && a5) a6 t);
    }

module _ {s : Scaling} {input : List ℤ} {out : ℕ} (c : Clean s input out) (e : copies s ≡ false) where
  pub shape_of : Shaped s
  shape_of = shaped s (subst (λ (b : Bool). T (cond b (same_shape s) (scaling_shape s))) e c.shape)

  pub wider : down_width s < up_width s
  wider = leb-false (up_width s) (down_width s) (subst (λ (b : Bool). (not b && leb (up_width s) (down_width s)) ≡ false) e c.grows)

  pub some_cols : 0 < s.in_cols
  some_cols = omega (arith, round_some (sub_of s.plane s.sub_x) s.frame_width (sub_small s.plane s.sub_x 1 c.sides.sub_x) c.sides.some_cols, shape_of.cols)

  abbrev last : ℕ
  last = min (last_col s.frame_width (sub_of s.plane s.sub_x)) (s.in_cols - 1)

  -- the last column that is read lies in the row, and no more than one before the plane's own last
  near_last : (d last cols : ℕ) → d ≤ suc last → d ≤ cols → 0 < cols → d + 1 ≤ min last (cols - 1) + 4
  near_last d last cols p q r = omega arith

  pub fits : Fit (start (down_width s) (up_width s)) (step (down_width s) (up_width s)) last s.in_cols (scaled_height s) (up_width s) (largest (depth_of s.depth)) input out
  fits = record {
    begins = start_small (down_width s) (up_width s);
    steps = step_small (down_width s) (up_width s) wider;
    ends = omega (arith, some_cols);
    wide = shape_of.wide;
    across = extent_small s.plane s.sub_x s.upscaled_width c.sides.sub_x c.sides.upscaled;
    reach = λ x h. le_trans (place_small (down_width s) (up_width s) x h (extent_small s.plane s.sub_x s.upscaled_width c.sides.sub_x c.sides.upscaled))
        (near_last (down_width s) (last_col s.frame_width (sub_of s.plane s.sub_x)) s.in_cols
        (last_col_lem (halves (sub_of s.plane s.sub_x) (sub_small s.plane s.sub_x 1 c.sides.sub_x)) s.frame_width).0 shape_of.cols some_cols);
    tall = extent_small s.plane s.sub_y s.frame_height c.sides.sub_y c.sides.height;
    bright = depth_bright (depth_of s.depth);
    has = omega (arith, mul-le-mul_right s.in_cols shape_of.rows, c.in_long);
    sized = record { size = λ k p q. le_trans (sample c k).1 (depth_bright (depth_of s.depth)) };
    room = omega (arith, c.out_long ∙ ap2 ◌*◌ shape_of.height shape_of.width);
  }

  pub out_is : out ≡ scaled_height s * up_width s
  out_is = c.out_long ∙ ap2 ◌*◌ shape_of.height shape_of.width
