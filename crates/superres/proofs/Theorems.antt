-- What a caller gets from `upscale_plane`'s promise: no second answer and no second output satisfy it; every output sample is in range; a
-- constant row stays constant.
use Rattle.std.specs.Prelude.{Result}
use mathlib.Core.Path.{◌≡◌, refl, sym, ◌∙◌, ap, subst}
use mathlib.Core.Bool.{Bool, true, false}
use mathlib.Core.List.{List}
use Prim.Native.Nat.{ℕ, ◌+◌, ◌*◌, ◌/◌, ◌%◌, ◌≤◌, ◌<◌}
use native.Mathlib.Omega.{arith}
use borrow.Author.Tests.{eq-eqb}
use lib.IntN.{ℤ, pos, nat_abs, ◌*ℤ◌}
use lib.Signed.{◌≤ℤ◌}
use lib.ListN.{length, get_or}
use Rattle.laws.specs.Bounds.{Samples}
use Rattle.laws.specs.Index.{cell_of, of_lt}
use Rattle.laws.specs.Integers.{le_out}
use Rattle.laws.specs.Lists.{plane, plane_at}
use Rattle.laws.specs.Tests.{cond_true}
use Rattle.standard.specs.declared.Depth.{Depth}
use Rattle.standard.specs.declared.Scaling.{Scaling}
use Rattle.standard.specs.declared.Refusal.{Refusal}
use Rattle.standard.specs.Answers.{of_stored}
use Rattle.standard.specs.Arithmetic.{round2, clip_to}
use Rattle.standard.specs.Calls.{upscaled_slice, upscale_out}
use Rattle.standard.specs.Depths.{depth_of, largest}
use Rattle.standard.specs.Planes.{grid, tabled}
use Rattle.standard.specs.Refusals.{first, upscale_tests, copies, sub_of, scaled_height, down_width, up_width}
use Rattle.standard.specs.Superres.{phase, column, last_col, upscaled}
use Rattle.standard.specs.UpscaleFilter.{up_tap}
use Rattle.standard.proofs.Answers.{stored_once}
use Rattle.standard.proofs.Sums.{sum_ℤ_same}
use Rattle.standard.proofs.Upscaler.{column_lt, upscaled_flat, upscaled_range}
use Rattle.superres.proofs.Clean.{Clean, clean, sample, some_cols, out_is}

-- ---- the promise, and that it leaves nothing open
pub record Promised (s : Scaling) (input output : List ℤ) (answer : Result (Unit {0}) Refusal) (after : List ℤ) : Type 0 where
  pub number : of_stored answer ≡ first (upscale_tests s input (length output))
  pub slice : after ≡ upscale_out s input output

pub upscale_once : {s : Scaling} {input output : List ℤ} {r q : Result (Unit {0}) Refusal} {o p : List ℤ} → Promised s input output r o → Promised s input output q p → (r ≡ q) × (o ≡ p)
upscale_once {r = r} {q = q} a b = (stored_once r q (a.number ∙ sym b.number), a.slice ∙ sym b.slice)

-- ---- where the number is 0
-- the output sample of row y, column x
abbrev pub out_sample : Scaling → List ℤ → ℕ → ℕ → ℕ
out_sample s input y x = upscaled (depth_of s.depth) (down_width s) (up_width s) (last_col s.frame_width (sub_of s.plane s.sub_x)) s.in_cols (grid s.in_cols input y) x

module _ (s : Scaling) (input output : List ℤ) (done : first (upscale_tests s input (length output)) ≡ 0) where
  known : Clean s input (length output)
  known = clean s input (length output) done

  written : upscale_out s input output ≡ upscaled_slice s input
  unfolding upscale_out
  written = cond_true _ _ _ (eq-eqb _ 0 done)

  copy_is : copies s ≡ true → upscale_out s input output ≡ input
  unfolding upscaled_slice
  copy_is e = written ∙ rw e

  plane_is : copies s ≡ false → upscale_out s input output ≡ plane (λ y x. pos (out_sample s input y x)) (up_width s) (scaled_height s)
  unfolding upscaled_slice tabled
  plane_is e = written ∙ rw e

  pub cell : copies s ≡ false → (y x : ℕ) → y < scaled_height s → x < up_width s → get_or (upscale_out s input output) (y * up_width s + x) (pos 0) ≡ pos (out_sample s input y x)
  cell e y x p q = ap (λ (l : List ℤ). get_or l (y * up_width s + x) (pos 0)) (plane_is e) ∙ plane_at (λ y x. pos (out_sample s input y x)) (up_width s) (scaled_height s) y x (pos 0) p q

  -- every output sample is in range
  in_range_lem : (b : Bool) → copies s ≡ b → (k : ℕ) → k < length output →
      (pos 0 ≤ℤ get_or (upscale_out s input output) k (pos 0)) × (nat_abs (get_or (upscale_out s input output) k (pos 0)) ≤ largest (depth_of s.depth))
  in_range_lem true e k h = rw (copy_is e) (sample known k)
  in_range_lem false e k h =
      let r = of_lt (subst (λ (n : ℕ). k < n) (out_is known e) h) in
      let v : get_or (upscale_out s input output) k (pos 0) ≡ pos (out_sample s input (k / up_width s) (k % up_width s)) = ap (λ (i : ℕ). get_or (upscale_out s input output) i (pos 0)) (cell_of k (up_width s)) ∙ cell e (k / up_width s) (k % up_width s) r.0 r.1 in
      rw v (le_out (omega arith), upscaled_range (depth_of s.depth) _ _ _ _ _ _)

  pub upscale_range : Samples (largest (depth_of s.depth)) 0 (length output) (upscale_out s input output)
  upscale_range = record { low = λ k p q. (in_range_lem (copies s) refl k q).0; size = λ k p q. (in_range_lem (copies s) refl k q).1 }

-- ---- a constant row stays constant
row_local : (dep : Depth) (d u last cols x : ℕ) (f g : ℕ → ℕ) → 0 < cols → ((c : ℕ) → c < cols → f c ≡ g c) → upscaled dep d u last cols f x ≡ upscaled dep d u last cols g x
unfolding upscaled
row_local dep d u last cols x f g h e = ap (λ (z : ℤ). clip_to (largest dep) (round2 7 z)) (sum_ℤ_same 8 _ _ (λ k q. ap (λ (n : ℕ). up_tap (phase d u x) k *ℤ pos n) (e (column d u last cols x k) (column_lt d u last cols x k h))))

module _ (s : Scaling) (input output : List ℤ) (done : first (upscale_tests s input (length output)) ≡ 0) (scaling : copies s ≡ false) (v y : ℕ) (row : y < scaled_height s)
    (flat : (c : ℕ) → c < s.in_cols → get_or input (y * s.in_cols + c) (pos 0) ≡ pos v) where
  at : (c : ℕ) → c < s.in_cols → grid s.in_cols input y c ≡ v
  unfolding grid
  at c h = ap nat_abs (flat c h)

  bright : v ≤ largest (depth_of s.depth)
  bright = subst (λ (z : ℤ). nat_abs z ≤ largest (depth_of s.depth)) (flat 0 (some_cols (known s input output done) scaling)) (sample (known s input output done) (y * s.in_cols + 0)).1

  pub upscale_flat : (x : ℕ) → x < up_width s → get_or (upscale_out s input output) (y * up_width s + x) (pos 0) ≡ pos v
  upscale_flat x h = cell s input output done scaling y x row h ∙ ap pos (row_local _ _ _ _ s.in_cols x _ (λ _. v) (some_cols (known s input output done) scaling) at ∙ upscaled_flat (depth_of s.depth) _ _ _ _ v x bright)
