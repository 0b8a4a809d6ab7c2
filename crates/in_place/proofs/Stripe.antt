-- The painted rectangles of a stripe are its part of `stripe_slice`, and every other sample is as it was; with frame type 0 all are.
use mathlib.Core.Path.{◌≡◌, refl, sym, ◌∙◌, ap, subst}
use mathlib.Core.Logic.{◌⊎◌, inl, inr}
use mathlib.Core.Bool.{Bool, true, false, cond}
use mathlib.Core.List.{List}
use Prim.Native.Nat.{ℕ, suc, ◌+◌, ◌-◌, ◌*◌, ◌/◌, ◌%◌, ◌≤◌, ◌<◌, min, max}
use native.Mathlib.Omega.{arith}
use native.Mathlib.Nat.{add-mul}
use borrow.Author.Tests.{eq-eqb}
use lib.Dec.{T, eqb, ltb, eqb→eq}
use lib.Seq.{ext_get_or}
use lib.IntN.{ℤ, pos, nat_abs}
use lib.ListN.{length, get_or}
use Rattle.laws.specs.Bounds.{sample_is}
use Rattle.laws.specs.Cover.{Painted}
use Rattle.laws.specs.Index.{cell_of, lt_or_le, of_lt, row_le}
use Rattle.laws.specs.Lists.{at_listing, length_listing}
use Rattle.laws.specs.Tests.{Test, test}
use Rattle.standard.specs.declared.Frame.{Frame}
use Rattle.standard.specs.declared.Depth.{Depth}
use Rattle.standard.specs.declared.Kind.{Kind}
use Rattle.standard.specs.declared.Kind.TheVariants.{None}
use Rattle.standard.specs.Depths.{depth_of, largest}
use Rattle.standard.specs.Stripes.{stripe_of, stripe_start, stripe_stop, unit_col_of, unit_row_of, units}
use Rattle.standard.specs.Refusals.{plane_height, plane_width, samples, sub_y_of}
use Rattle.standard.specs.Units.{kind_of}
use Rattle.standard.specs.Fetch.{near, restored, unit_at}
use Rattle.standard.specs.Planes.{edges, grid, source, source_window, stripe_slice}
use Rattle.standard.specs.Calls.{shape_of}
use Rattle.standard.proofs.Stripes.{size_of, span}
use Rattle.standard.proofs.Locality.{restored_local}
use Rattle.standard.proofs.Rectangles.{col_below, index_of}
use Rattle.fetch.specs.declared.Source.{Source}
use Rattle.fetch.specs.Source.{stripe_source}
use Rattle.fetch.proofs.Sources.{Copied, stripe_cell}
use Rattle.rectangle.specs.View.{Fetchable, Sides, shown_at}
use Rattle.rectangle.proofs.SharpLaws.{near_in}
use Rattle.geometry.proofs.Tests as counts
use Rattle.restoration.specs.Asked.{Asked, Stripe, unit_shown}
use Rattle.restoration.proofs.Units.{sized, sides}
use Rattle.stripe_tests.proofs.Laws.{legal}
use Rattle.stripe_tests.proofs.Passed.{StripePassed}
use Rattle.in_place.proofs.Ranges.{high, hv, own_samples, start, stripe_fetched}

-- a sample of the definition's slice
abbrev pub restored_sample : Frame → List ℤ → List ℤ → ℕ → List ℤ → ℕ → ℕ → ℤ
restored_sample f table E s P y x =
    pos (restored (depth_of f.depth) y (unit_at (shape_of f table) y x) (source_window (shape_of f table) (edges (plane_width f) E) (grid (plane_width f) P) s y x))

-- a list that holds these in the stripe and the plane's own samples elsewhere is the slice
pub is_stripe : (f : Frame) (table E P t : List ℤ) (s : ℕ) → length t ≡ samples f →
    ((y x : ℕ) → y < plane_height f → x < plane_width f → stripe_of (sub_y_of f) y ≡ s → get_or t (y * plane_width f + x) (pos 0) ≡ restored_sample f table E s P y x) →
    ((y x : ℕ) → y < plane_height f → x < plane_width f → (stripe_of (sub_y_of f) y ≡ s → ⊥) → get_or t (y * plane_width f + x) (pos 0) ≡ get_or P (y * plane_width f + x) (pos 0)) →
    t ≡ stripe_slice (shape_of f table) E s P
unfolding stripe_slice
is_stripe f table E P t s long done kept = ext_get_or (pos 0) t _ (long ∙ sym (length_listing (samples f) _)) (λ i l. same i (omega (arith, l, long)))
  where
    there : (i : ℕ) → i < plane_height f * plane_width f → (b : Bool) → eqb (stripe_of (sub_y_of f) (i / plane_width f)) s ≡ b →
        get_or t (i / plane_width f * plane_width f + i % plane_width f) (pos 0) ≡ cond b (restored_sample f table E s P (i / plane_width f) (i % plane_width f)) (get_or P (i / plane_width f * plane_width f + i % plane_width f) (pos 0))
    there i l true e = let r : (i / plane_width f < plane_height f) × (i % plane_width f < plane_width f) = of_lt l in done (i / plane_width f) (i % plane_width f) r.0 r.1 (eqb→eq _ _ (subst T (sym e) tt))
    there i l false e = let r : (i / plane_width f < plane_height f) × (i % plane_width f < plane_width f) = of_lt l in
        kept (i / plane_width f) (i % plane_width f) r.0 r.1 (λ q. absurd (subst T (sym (eq-eqb _ _ q) ∙ e) tt))

    same : (i : ℕ) → i < plane_height f * plane_width f → get_or t i (pos 0) ≡ get_or (stripe_slice (shape_of f table) E s P) i (pos 0)
    same i l =
        ap (λ (k : ℕ). get_or t k (pos 0)) (cell_of i (plane_width f))
        ∙ there i l (eqb (stripe_of (sub_y_of f) (i / plane_width f)) s) refl
        ∙ ap (λ (k : ℕ). cond (eqb (stripe_of (sub_y_of f) (i / plane_width f)) s) (restored_sample f table E s P (i / plane_width f) (i % plane_width f)) (get_or P k (pos 0))) (sym (cell_of i (plane_width f)))
        ∙ sym (at_listing (samples f) _ (pos 0) i l)

-- ---- what the rectangles ask
module _ {f : Frame} {s : ℕ} {table E P : List ℤ} {scratch room : ℕ} (p : StripePassed f s table E P scratch room) (t : 0 < f.frame_type) where
  pub asked : Asked f table scratch
  asked = let q = p.typed t in let n = p.numbered in record {
    legal = legal n;
    plane = n.plane;
    typed = t;
    size = q.0;
    counts = sym (counts.gives_0 f n.plane n.high n.wide q.0);
    long = q.1;
    entries = q.2;
    room = q.3;
  }

  module _ (C : List ℤ) (c : Copied P C (plane_width f) (start p) (high p)) where
    shown : (y x : ℕ) → y < plane_height f → x < plane_width f → unit_shown f table (depth_of f.depth) C E (stripe_source (sub_y_of f) s) y x ≡ restored_sample f table E s P y x
    unfolding shown_at source_window
    shown y x hy hx = ap pos (restored_local (record {
      same = λ i j u v. stripe_cell (hv p) P C E (plane_width f) (plane_height f) s c (near (plane_height f) y i) (near (plane_width f) x j) (near_in (plane_height f) y i (legal p.numbered).rows) (near_in (plane_width f) x j (legal p.numbered).cols);
    }) (depth_of f.depth) y (unit_at (shape_of f table) y x))

    -- where a sample's rectangle stands
    of_stripe : (y x : ℕ) → stripe_of (sub_y_of f) y ≡ s →
        (s * units (plane_width f) f.unit_size ≤ index_of (sub_y_of f) f.unit_size (plane_width f) y x) × (index_of (sub_y_of f) f.unit_size (plane_width f) y x < s * units (plane_width f) f.unit_size + units (plane_width f) f.unit_size)
    unfolding index_of
    of_stripe y x e = let k = ap (λ (n : ℕ). n * units (plane_width f) f.unit_size) e in (omega (arith, k), omega (arith, k, col_below (size_of (sized asked)) (plane_width f) x))

    before : (y x : ℕ) → stripe_of (sub_y_of f) y < s → index_of (sub_y_of f) f.unit_size (plane_width f) y x < s * units (plane_width f) f.unit_size
    unfolding index_of
    before y x l = omega (arith, row_le {y = stripe_of (sub_y_of f) y} {h = s} (units (plane_width f) f.unit_size) l, col_below (size_of (sized asked)) (plane_width f) x)

    after : (y x : ℕ) → s < stripe_of (sub_y_of f) y → s * units (plane_width f) f.unit_size + units (plane_width f) f.unit_size ≤ index_of (sub_y_of f) f.unit_size (plane_width f) y x
    unfolding index_of
    after y x l = omega (arith, row_le {y = s} {h = stripe_of (sub_y_of f) y} (units (plane_width f) f.unit_size) l)

    pub stripe_painted : (o : List ℤ) → Painted (index_of (sub_y_of f) f.unit_size (plane_width f)) (plane_width f) (plane_height f) (unit_shown f table (depth_of f.depth) C E (stripe_source (sub_y_of f) s)) (pos 0)
        (s * units (plane_width f) f.unit_size) (s * units (plane_width f) f.unit_size + units (plane_width f) f.unit_size) P o → o ≡ stripe_slice (shape_of f table) E s P
    stripe_painted o u = is_stripe f table E P o s (u.long ∙ p.long)
        (λ y x hy hx e. u.done y x hy hx (of_stripe y x e).0 (of_stripe y x e).1 ∙ shown y x hy hx)
        (λ y x hy hx n. other y x hy hx n (lt_or_le (stripe_of (sub_y_of f) y) s))
      where
        other : (y x : ℕ) → y < plane_height f → x < plane_width f → (stripe_of (sub_y_of f) y ≡ s → ⊥) → (stripe_of (sub_y_of f) y < s) ⊎ (s ≤ stripe_of (sub_y_of f) y) → get_or o (y * plane_width f + x) (pos 0) ≡ get_or P (y * plane_width f + x) (pos 0)
        other y x hy hx n (inl l) = u.before y x hy hx (before y x l)
        other y x hy hx n (inr l) = u.after y x hy hx (after y x (omega (arith, n)))

    -- the same by the values that the code holds
    pub stripe_asked : (r : Source) → r ≡ stripe_source (sub_y_of f) s → (e : Depth) → e ≡ depth_of f.depth → (w h : ℕ) → w ≡ plane_width f → h ≡ plane_height f → Stripe f s r × Fetchable (largest e) C E w h r × Sides w h
    stripe_asked r er e ed w h ew eh = rw (er, ed, ew, eh) (record { start = refl; stop = refl }, stripe_fetched p C c, sides asked)

    pub stripe_written : (r : Source) → r ≡ stripe_source (sub_y_of f) s → (e : Depth) → e ≡ depth_of f.depth → (o : List ℤ) →
        Painted (index_of (sub_y_of f) f.unit_size (plane_width f)) (plane_width f) (plane_height f) (unit_shown f table e C E r) (pos 0)
        (s * units (plane_width f) f.unit_size) (s * units (plane_width f) f.unit_size + units (plane_width f) f.unit_size) P o → o ≡ stripe_slice (shape_of f table) E s P
    stripe_written r er e ed o u = stripe_painted o
        (subst (λ (z : Depth). Painted (index_of (sub_y_of f) f.unit_size (plane_width f)) (plane_width f) (plane_height f) (unit_shown f table z C E (stripe_source (sub_y_of f) s)) (pos 0) (s * units (plane_width f) f.unit_size) (s * units (plane_width f) f.unit_size + units (plane_width f) f.unit_size) P o) ed
        (subst (λ (z : Source). Painted (index_of (sub_y_of f) f.unit_size (plane_width f)) (plane_width f) (plane_height f) (unit_shown f table e C E z) (pos 0) (s * units (plane_width f) f.unit_size) (s * units (plane_width f) f.unit_size + units (plane_width f) f.unit_size) P o) er u))

-- ---- frame type 0: no sample changes
type_0 : (f : Frame) (table : List ℤ) (y x : ℕ) → f.frame_type ≡ 0 → unit_at (shape_of f table) y x ≡ None
unfolding unit_at
type_0 f table y x e = ap (λ (b : Bool). cond b None (kind_of table (unit_row_of (sub_y_of f) f.unit_size (plane_height f) (stripe_of (sub_y_of f) y) * units (plane_width f) f.unit_size + unit_col_of f.unit_size (plane_width f) x))) (eq-eqb f.frame_type 0 e)

module _ {f : Frame} {s : ℕ} {table E P : List ℤ} {scratch room : ℕ} (p : StripePassed f s table E P scratch room) where
  -- the stripe's own row is read from the plane
  own_row : (y x : ℕ) → stripe_of (sub_y_of f) y ≡ s → source (sub_y_of f) (edges (plane_width f) E) (grid (plane_width f) P) s y x ≡ grid (plane_width f) P y x
  unfolding source
  own_row y x e = go (ltb y (stripe_start (sub_y_of f) s)) (test y (stripe_start (sub_y_of f) s)) (ltb y (stripe_stop (sub_y_of f) s)) (test y (stripe_stop (sub_y_of f) s))
    where
      from : stripe_start (sub_y_of f) s ≤ y
      from = subst (λ (n : ℕ). stripe_start (sub_y_of f) n ≤ y) e (span (hv p) y).from

      to : y < stripe_stop (sub_y_of f) s
      to = subst (λ (n : ℕ). y < stripe_stop (sub_y_of f) n) e (span (hv p) y).to

      go : (a : Bool) → Test y (stripe_start (sub_y_of f) s) a → (b : Bool) → Test y (stripe_stop (sub_y_of f) s) b →
          cond a (edges (plane_width f) E s (max y (stripe_start (sub_y_of f) s - 2) - (stripe_start (sub_y_of f) s - 2)) x) (cond b (grid (plane_width f) P y x) (edges (plane_width f) E (suc s) (2 + (min y (stripe_stop (sub_y_of f) s + 1) - stripe_stop (sub_y_of f) s)) x)) ≡ grid (plane_width f) P y x
      go true (Test.below q) b t = absurd (omega (arith, from))
      go false (Test.above q) true t = refl
      go false (Test.above q) false (Test.above o) = absurd (omega (arith, to))

  middle : (y x : ℕ) → y < plane_height f → x < plane_width f → stripe_of (sub_y_of f) y ≡ s → source_window (shape_of f table) (edges (plane_width f) E) (grid (plane_width f) P) s y x 3 3 ≡ grid (plane_width f) P y x
  unfolding source_window
  middle y x hy hx e =
      let ey : near (plane_height f) y 3 ≡ y = omega arith in
      let ex : near (plane_width f) x 3 ≡ x = omega arith in
      ap (λ (v : ℕ). source (sub_y_of f) (edges (plane_width f) E) (grid (plane_width f) P) s v (near (plane_width f) x 3)) ey
      ∙ ap (source (sub_y_of f) (edges (plane_width f) E) (grid (plane_width f) P) s y) ex ∙ own_row y x e

  grid_is : (y x : ℕ) → nat_abs (get_or P (y * plane_width f + x) (pos 0)) ≡ grid (plane_width f) P y x
  unfolding grid
  grid_is y x = refl

  -- a place of the stripe, in the slice
  place : (y x : ℕ) → y < plane_height f → x < plane_width f → stripe_of (sub_y_of f) y ≡ s → (start p * plane_width f ≤ y * plane_width f + x) × (y * plane_width f + x < start p * plane_width f + high p * plane_width f)
  place y x hy hx e =
      let from = subst (λ (n : ℕ). stripe_start (sub_y_of f) n ≤ y) e (span (hv p) y).from in
      let to = subst (λ (n : ℕ). y < stripe_stop (sub_y_of f) n) e (span (hv p) y).to in
      let split = add-mul (start p) (y - start p) (plane_width f) in
      let whole = ap (λ (n : ℕ). n * plane_width f) {x = start p + (y - start p)} {y = y} (omega (arith, from)) in
      (omega (arith, split, whole), omega (arith, split, whole, row_le {y = y - start p} {h = high p} (plane_width f) (omega (arith, from, to)), hx))

  pub untouched : f.frame_type ≡ 0 → P ≡ stripe_slice (shape_of f table) E s P
  unfolding restored
  untouched z = is_stripe f table E P P s p.long
      (λ y x hy hx e. let q = place y x hy hx e in
      sym (sample_is (own_samples p) (y * plane_width f + x) q.0 q.1)
      ∙ ap pos (grid_is y x ∙ sym (middle y x hy hx e))
      ∙ ap (λ (u : Kind). pos (restored (depth_of f.depth) y u (source_window (shape_of f table) (edges (plane_width f) E) (grid (plane_width f) P) s y x))) (sym (type_0 f table y x z)))
      (λ y x hy hx n. refl)
