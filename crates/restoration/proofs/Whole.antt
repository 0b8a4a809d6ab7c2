-- A whole plane by stripes: what a stripe's source shows is what the specification fetches, so the painted stripes are the restored plane.
use mathlib.Core.Path.{◌≡◌, refl, sym, ◌∙◌, ap, subst}
use mathlib.Core.Bool.{Bool, true, false, cond}
use mathlib.Core.List.{List}
use Prim.Native.Nat.{ℕ, ◌+◌, ◌*◌, ◌≤◌, ◌<◌}
use native.Mathlib.Omega.{arith}
use native.Mathlib.Nat.{add-mul, zero-mul}
use lib.Arith.{digits_div}
use lib.Dec.{ltb}
use lib.IntN.{ℤ, pos}
use lib.ListN.{length}
use Rattle.laws.specs.Bounds.{Samples, samples_lent}
use Rattle.laws.specs.Cover.{Painted, painted_same, painted_join, painted_all, painted_none}
use Rattle.laws.specs.Tests.{Test, below, above, test}
use Rattle.standard.specs.declared.Frame.{Frame}
use Rattle.standard.specs.declared.Depth.{Depth}
use Rattle.standard.specs.Depths.{depth_of, largest}
use Rattle.standard.specs.Stripes.{stripe_of, stripe_start, stripe_stop, rectangles, stripes, units}
use Rattle.standard.specs.Refusals.{sub_y_of, plane_height, plane_width, samples}
use Rattle.standard.specs.Fetch.{fetch, near, restored_at, unit_at, window}
use Rattle.standard.specs.Planes.{grid, tabled, restored_slice}
use Rattle.standard.specs.Calls.{shape_of}
use Rattle.standard.proofs.Stripes.{Halved, full, half, halved, size_of, stripe_exists}
use Rattle.standard.proofs.Locality.{restored_local}
use Rattle.standard.proofs.Rectangles.{index_of, cover, col_below}
use Rattle.fetch.specs.declared.Source.{Source}
use Rattle.fetch.specs.Source.{row_of, over_row, under_row, inside_row, source_row, Reach, whole_source}
use Rattle.fetch.proofs.Sources.{whole_reach, whole_cell}
use Rattle.rectangle.specs.View.{Fetchable, Sides, shown_at}
use Rattle.rectangle.proofs.SharpLaws.{near_in}
use Rattle.restoration.specs.Asked.{Asked, Stripe, unit_shown}
use Rattle.restoration.proofs.Units.{sized, sides, in_stripe}

-- ---- rows that are handed out hold samples
source_samples : {m w h : ℕ} {inside beside : List ℤ} (r : Source) → Reach inside beside w h r → Samples m 0 (length inside) inside → Samples m 0 (length beside) beside → (y : ℕ) → y < h → Samples m 0 w (source_row inside beside w r y)
unfolding source_row row_of
source_samples {m = m} {w = w} {inside = inside} {beside = beside} r p u v y l = go (ltb y r.start) (test y r.start) (ltb y r.stop) (test y r.stop)
  where
    go : (a : Bool) → Test y r.start a → (b : Bool) → Test y r.stop b →
        Samples m 0 w (cond a (row_of beside w (over_row r y)) (cond b (row_of inside w (inside_row r y)) (row_of beside w (under_row r y))))
    go true (below q) b t = samples_lent (over_row r y * w) w v (omega arith) (p.over_in y l q)
    go false (above q) true (below o) = samples_lent (inside_row r y * w) w u (omega arith) (p.inside_in y l q o)
    go false (above q) false (above o) = samples_lent (under_row r y * w) w v (omega arith) (p.under_in y l o)

stop_low : {sy : ℕ} → Halved sy → (s : ℕ) → stripe_stop sy s ≤ stripe_start sy s + 64
unfolding stripe_start stripe_stop
stop_low full s = omega arith
stop_low half s = omega arith

module _ {f : Frame} {table : List ℤ} {scratch : ℕ} (a : Asked f table scratch) (D C : List ℤ) (at : ℕ) (l : at < stripes (sub_y_of f) (plane_height f)) where
  hv : Halved (sub_y_of f)
  hv = halved (sized a)

  starts : stripe_start (sub_y_of f) at < plane_height f
  starts = (stripe_exists hv (plane_height f) at a.legal.rows).0 l

  pub whole_fetched : (m : ℕ) → length C ≡ samples f → length D ≡ samples f → Samples m 0 (samples f) C → Samples m 0 (samples f) D → Fetchable m C D (plane_width f) (plane_height f) (whole_source (sub_y_of f) at)
  whole_fetched m c d u v = record {
    reach = whole_reach hv C D (plane_width f) (plane_height f) at c d starts;
    legal = λ y p. source_samples (whole_source (sub_y_of f) at) (whole_reach hv C D (plane_width f) (plane_height f) at c d starts) (subst (λ (n : ℕ). Samples m 0 n C) (sym c) u) (subst (λ (n : ℕ). Samples m 0 n D) (sym d) v) y p;
    over_low = omega (arith, starts, a.legal.rows_low);
    inside_low = omega (arith, starts, a.legal.rows_low);
    under_low = omega (arith, starts, a.legal.rows_low, stop_low hv at);
  }

  shown : (y x : ℕ) → y < plane_height f → x < plane_width f → stripe_of (sub_y_of f) y ≡ at →
      unit_shown f table (depth_of f.depth) C D (whole_source (sub_y_of f) at) y x ≡ pos (restored_at (shape_of f table) (grid (plane_width f) D) (grid (plane_width f) C) y x)
  unfolding shown_at restored_at window
  shown y x p q e = ap pos (restored_local (record {
    same = λ i j u v.
        whole_cell hv C D (plane_width f) (plane_height f) at (near (plane_height f) y i) (near (plane_width f) x j) (near_in (plane_width f) x j a.legal.cols)
        ∙ ap (λ (s : ℕ). fetch (sub_y_of f) (grid (plane_width f) D) (grid (plane_width f) C) s (near (plane_height f) y i) (near (plane_width f) x j)) (sym e);
  }) (depth_of f.depth) y (unit_at (shape_of f table) y x))

  stripe_named : (y x : ℕ) → at * units (plane_width f) f.unit_size ≤ index_of (sub_y_of f) f.unit_size (plane_width f) y x → index_of (sub_y_of f) f.unit_size (plane_width f) y x < at * units (plane_width f) f.unit_size + units (plane_width f) f.unit_size → stripe_of (sub_y_of f) y ≡ at
  unfolding index_of
  stripe_named y x p q = sym (digits_div (stripe_of (sub_y_of f) y) (col_below (size_of (sized a)) (plane_width f) x)) ∙ in_stripe f at (units (plane_width f) f.unit_size) _ refl p q

  -- one more stripe
  abbrev pub restored_sample : ℕ → ℕ → ℤ
  restored_sample y x = pos (restored_at (shape_of f table) (grid (plane_width f) D) (grid (plane_width f) C) y x)

  pub stripe_joined : (d s t : List ℤ) (n : ℕ) → n ≡ (at + 1) * units (plane_width f) f.unit_size →
      Painted (index_of (sub_y_of f) f.unit_size (plane_width f)) (plane_width f) (plane_height f) restored_sample (pos 0) 0 (at * units (plane_width f) f.unit_size) d s →
      Painted (index_of (sub_y_of f) f.unit_size (plane_width f)) (plane_width f) (plane_height f) (unit_shown f table (depth_of f.depth) C D (whole_source (sub_y_of f) at)) (pos 0) (at * units (plane_width f) f.unit_size) (at * units (plane_width f) f.unit_size + units (plane_width f) f.unit_size) s t →
      Painted (index_of (sub_y_of f) f.unit_size (plane_width f)) (plane_width f) (plane_height f) restored_sample (pos 0) 0 n d t
  stripe_joined d s t n e u v = subst (λ (k : ℕ). Painted (index_of (sub_y_of f) f.unit_size (plane_width f)) (plane_width f) (plane_height f) restored_sample (pos 0) 0 k d t) (sym (e ∙ add-mul at 1 (units (plane_width f) f.unit_size) ∙ omega arith))
      (painted_join _ _ _ _ _ _ _ _ restored_sample _ t (omega arith) (omega arith) u
      (painted_same _ _ _ _ _ _ _ _ _ restored_sample (λ y x p q r o. shown y x p q (stripe_named y x r o)) v))

  -- the same by the values that the code holds
  pub stripe_asked : (r : Source) → r ≡ whole_source (sub_y_of f) at → (e : Depth) → e ≡ depth_of f.depth → (w h : ℕ) → w ≡ plane_width f → h ≡ plane_height f → length C ≡ samples f → length D ≡ samples f →
      Samples (largest (depth_of f.depth)) 0 (samples f) C → Samples (largest (depth_of f.depth)) 0 (samples f) D → Stripe f at r × Fetchable (largest e) C D w h r × Sides w h
  stripe_asked r er e ed w h ew eh c d u v = rw (er, ed, ew, eh) (record { start = refl; stop = refl }, whole_fetched (largest (depth_of f.depth)) c d u v, sides a)

  pub stripe_added : (r : Source) → r ≡ whole_source (sub_y_of f) at → (e : Depth) → e ≡ depth_of f.depth → (d s t : List ℤ) →
      Painted (index_of (sub_y_of f) f.unit_size (plane_width f)) (plane_width f) (plane_height f) restored_sample (pos 0) 0 (at * units (plane_width f) f.unit_size) d s →
      Painted (index_of (sub_y_of f) f.unit_size (plane_width f)) (plane_width f) (plane_height f) (unit_shown f table e C D r) (pos 0) (at * units (plane_width f) f.unit_size) (at * units (plane_width f) f.unit_size + units (plane_width f) f.unit_size) s t →
      Painted (index_of (sub_y_of f) f.unit_size (plane_width f)) (plane_width f) (plane_height f) restored_sample (pos 0) 0 ((at + 1) * units (plane_width f) f.unit_size) d t
  stripe_added r er e ed d s t u v = stripe_joined d s t _ refl u
      (subst (λ (z : Depth). Painted (index_of (sub_y_of f) f.unit_size (plane_width f)) (plane_width f) (plane_height f) (unit_shown f table z C D (whole_source (sub_y_of f) at)) (pos 0) (at * units (plane_width f) f.unit_size) (at * units (plane_width f) f.unit_size + units (plane_width f) f.unit_size) s t) ed
      (subst (λ (z : Source). Painted (index_of (sub_y_of f) f.unit_size (plane_width f)) (plane_width f) (plane_height f) (unit_shown f table e C D z) (pos 0) (at * units (plane_width f) f.unit_size) (at * units (plane_width f) f.unit_size + units (plane_width f) f.unit_size) s t) er v))

-- all stripes
pub whole_painted : {f : Frame} {table : List ℤ} {scratch : ℕ} (a : Asked f table scratch) (D C d t : List ℤ) (k : ℕ) → k ≡ stripes (sub_y_of f) (plane_height f) → length d ≡ samples f →
    Painted (index_of (sub_y_of f) f.unit_size (plane_width f)) (plane_width f) (plane_height f) (λ y x. pos (restored_at (shape_of f table) (grid (plane_width f) D) (grid (plane_width f) C) y x)) (pos 0) 0 (k * units (plane_width f) f.unit_size) d t →
    t ≡ restored_slice (shape_of f table) D C
unfolding restored_slice tabled rectangles
whole_painted {f = f} a D C d t k e long u =
    painted_all _ _ _ _ _ _ _ (cover (sized a) (plane_height f) (plane_width f) a.legal.rows a.legal.cols) (k * units (plane_width f) f.unit_size) t refl
    (omega (arith, ap (λ (n : ℕ). n * units (plane_width f) f.unit_size) e)) long u

-- before the first stripe
pub none_painted : (num : ℕ → ℕ → ℕ) (w h : ℕ) (f : ℕ → ℕ → ℤ) (z : ℤ) (u : ℕ) (d : List ℤ) → Painted num w h f z 0 (0 * u) d d
none_painted num w h f z u d = subst (λ (k : ℕ). Painted num w h f z 0 k d d) (sym (zero-mul u)) (painted_none num w h f z 0 d)
