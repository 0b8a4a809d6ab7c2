-- The plane that the code writes is the plane of the definition: `scaled` is `upscaled` on samples, and a copy is the input.
use mathlib.Core.Path.{◌≡◌, sym, ◌∙◌, ap, subst}
use mathlib.Core.Bool.{true, false}
use mathlib.Core.List.{List}
use Prim.Native.Nat.{ℕ, ◌+◌, ◌-◌, ◌*◌, ◌<◌, min}
use native.Mathlib.Omega.{arith}
use lib.IntN.{ℤ, pos, nat_abs, ◌*ℤ◌}
use lib.Signed.{◌≤ℤ◌, yes_non_neg, pos-nat_abs}
use lib.ListN.{length, get_or}
use lib.Seq.{ext_get_or}
use Rattle.laws.specs.Congruence.{ap2}
use Rattle.laws.specs.Lists.{plane, plane_at, plane_length, is_plane}
use Rattle.laws.specs.Runs.{stamp, stamp_at, stamp_length}
use Rattle.standard.specs.declared.Depth.{Depth}
use Rattle.standard.specs.declared.Scaling.{Scaling}
use Rattle.standard.specs.Arithmetic.{round2, clip_to}
use Rattle.standard.specs.Calls.{upscaled_slice}
use Rattle.standard.specs.Depths.{depth_of, largest}
use Rattle.standard.specs.Planes.{grid, tabled}
use Rattle.standard.specs.Refusals.{copies, sub_of, scaled_height, down_width, up_width}
use Rattle.standard.specs.Superres.{start, step, last_col, upscaled}
use Rattle.standard.specs.UpscaleFilter.{up_tap}
use Rattle.standard.proofs.Sums.{sum_ℤ_same}
use Rattle.superres.specs.Scaled.{scaled, place_at, Fit}
use Rattle.superres.specs.Sides.{Planned}
use Rattle.superres.proofs.Clean.{Clean, sample, copied_long, fits, out_is}
use Rattle.superres.proofs.Laws.{phase_bits, column_place}

pub scaled_is : (dep : Depth) (d u lc cols y x : ℕ) (input : List ℤ) → ((k : ℕ) → pos 0 ≤ℤ get_or input k (pos 0))
    → scaled (largest dep) (start d u) (step d u) (min lc (cols - 1)) (λ c. get_or input (y * cols + c) (pos 0)) x ≡ pos (upscaled dep d u lc cols (grid cols input y) x)
unfolding scaled upscaled grid
scaled_is dep d u lc cols y x input low = ap (λ (z : ℤ). pos (clip_to (largest dep) (round2 7 z))) (sum_ℤ_same 8 _ _ (λ k h. ap2 ◌*ℤ◌
    (ap (λ (p : ℕ). up_tap p k) (sym (phase_bits d u x)))
    (sym (pos-nat_abs (get_or input (y * cols + min (place_at (start d u) (step d u) x + k - 4) (min lc (cols - 1))) (pos 0)) (yes_non_neg (low _)))
    ∙ ap (λ (c : ℕ). pos (nat_abs (get_or input (y * cols + c) (pos 0)))) (sym (column_place d u lc cols x k)))))

plane_same : {A : Type 0} (f g : ℕ → ℕ → A) (w h : ℕ) (z : A) → ((y x : ℕ) → y < h → x < w → f y x ≡ g y x) → plane f w h ≡ plane g w h
plane_same f g w h z e = is_plane g w h (plane f w h) z (plane_length f w h) (λ y x p q. plane_at f w h y x z p q ∙ e y x p q)

module _ {s : Scaling} {input : List ℤ} {out : ℕ} (c : Clean s input out) where
  pub written : copies s ≡ false → plane (λ y. scaled (largest (depth_of s.depth)) (start (down_width s) (up_width s)) (step (down_width s) (up_width s)) (min (last_col s.frame_width (sub_of s.plane s.sub_x)) (s.in_cols - 1)) (λ k. get_or input (y * s.in_cols + k) (pos 0))) (up_width s) (scaled_height s) ≡ upscaled_slice s input
  unfolding upscaled_slice tabled
  written e = plane_same _ _ (up_width s) (scaled_height s) (pos 0) (λ y x p q. scaled_is (depth_of s.depth) (down_width s) (up_width s) (last_col s.frame_width (sub_of s.plane s.sub_x)) s.in_cols y x input (λ k. (sample c k).0)) ∙ rw e

  pub copied : copies s ≡ true → input ≡ upscaled_slice s input
  unfolding upscaled_slice
  copied e = rw e

  -- a run of the input over all of the output
  pub copied_run : copies s ≡ true → (o o' : List ℤ) → length o ≡ out → o' ≡ stamp (λ x. get_or input (0 + x) (pos 0)) 0 (length input) o → o' ≡ upscaled_slice s input
  copied_run e o o' l p = whole ∙ copied e
    where
      long : length o' ≡ length input
      long = ap length p ∙ stamp_length _ _ _ _ ∙ l ∙ sym (copied_long c e)

      whole : o' ≡ input
      whole = ext_get_or (pos 0) o' input long (λ k h. stamp_at _ 0 (length input) o o' k k (pos 0) p (omega (arith, l, copied_long c e)) (omega (arith, long)) (omega arith) ∙ ap (λ (j : ℕ). get_or input j (pos 0)) (omega arith))

  -- the same of a plan's numbers
  module _ (e : copies s ≡ false) {a b l cols rows width top : ℕ} (p : Planned s a b l cols rows width top) where
    pub plan_out : out ≡ rows * width
    plan_out = out_is c e ∙ sym (ap2 ◌*◌ p.rows_is p.width_is)

    pub plan_fits : Fit a b l cols rows width top input (rows * width)
    plan_fits = subst (Fit a b l cols rows width top input) plan_out (rw (p.start_is, p.step_is, p.last_is, p.cols_is, p.rows_is, p.width_is, p.top_is) (fits c e))

    pub plan_written : plane (λ y. scaled top a b l (λ k. get_or input (y * cols + k) (pos 0))) width rows ≡ upscaled_slice s input
    plan_written = rw (p.start_is, p.step_is, p.last_is, p.cols_is, p.rows_is, p.width_is, p.top_is) (written e)
