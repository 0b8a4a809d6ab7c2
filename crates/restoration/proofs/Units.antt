-- The unit of a rectangle is the unit of each of its samples, and its entry of the table is legal.
use mathlib.Core.Path.{◌≡◌, sym, ◌∙◌, ap, subst}
use mathlib.Core.Bool.{Bool, cond}
use mathlib.Core.List.{List}
use Prim.Native.Nat.{ℕ, ◌+◌, ◌*◌, ◌/◌, ◌%◌, ◌-◌, ◌≤◌, ◌<◌}
use native.Mathlib.Omega.{arith}
use native.Mathlib.Nat.{mul_assoc, mul-le-mul}
use borrow.Author.Tests.{ne_eqb}
use lib.Dec.{T}
use lib.Arith.{digits_div, digits_mod}
use lib.IntN.{ℤ}
use lib.ListN.{length}
use Rattle.laws.specs.Congruence.{ap2}
use Rattle.laws.specs.Index.{row_le}
use Rattle.laws.specs.Paint.{paint, paint_same}
use Rattle.standard.specs.declared.Frame.{Frame}
use Rattle.standard.specs.declared.Depth.{Depth}
use Rattle.standard.specs.declared.Geometry.{Geometry}
use Rattle.standard.specs.declared.Kind.{Kind}
use Rattle.standard.specs.declared.Kind.TheVariants.{None}
use Rattle.standard.specs.Stripes.{rectangle, rectangles, stripe_of, stripes, unit_col_of, unit_row_of, units}
use Rattle.standard.specs.Refusals.{sub_y_of, plane_height, plane_width}
use Rattle.standard.specs.Units.{kind_of, legal_entry}
use Rattle.standard.specs.Fetch.{unit_at}
use Rattle.standard.specs.Calls.{shape_of}
use Rattle.standard.proofs.Stripes.{Sized, size_of}
use Rattle.standard.proofs.Frames.{sized_of}
use Rattle.standard.proofs.Rectangles.{index_of, cover, col_below}
use Rattle.units.proofs.Legal.{legal_at}
use Rattle.asked.proofs.Numbers.{unit_counts}
use Rattle.geometry.proofs.Laws.{stripes_small}
use Rattle.fetch.specs.declared.Source.{Source}
use Rattle.rectangle.specs.View.{shown_at, Own, Sides}
use Rattle.restoration.specs.Asked.{Asked, Stripe, unit_shown}
use Rattle.restoration.proofs.Sizes.{Fit, fit, unit_below}

module _ {f : Frame} {table : List ℤ} {scratch : ℕ} (a : Asked f table scratch) where
  pub sized : Sized (sub_y_of f) f.unit_size
  sized = sized_of f a.plane a.size

  pub sides : Sides (plane_width f) (plane_height f)
  sides = record { wide = a.legal.cols; high = a.legal.rows; wide_low = a.legal.cols_low; high_low = a.legal.rows_low }

  abbrev pub entry : ℕ → ℕ
  entry k = (rectangle (sub_y_of f) f.unit_size (plane_height f) (plane_width f) k).unit_row * units (plane_width f) f.unit_size + (rectangle (sub_y_of f) f.unit_size (plane_height f) (plane_width f) k).unit_col

  pub entry_below : (k : ℕ) → entry k < units (plane_height f) f.unit_size * units (plane_width f) f.unit_size
  entry_below k = let b = unit_below (sub_y_of f) f.unit_size (plane_height f) (plane_width f) k in
      omega (arith, b.1, row_le {y = (rectangle (sub_y_of f) f.unit_size (plane_height f) (plane_width f) k).unit_row} {h = units (plane_height f) f.unit_size} (units (plane_width f) f.unit_size) b.0)

  table_long : length table ≡ 10 * (units (plane_height f) f.unit_size * units (plane_width f) f.unit_size)
  table_long = a.long ∙ mul_assoc 10 (units (plane_height f) f.unit_size) (units (plane_width f) f.unit_size)

  pub entry_in : (k : ℕ) → 10 * entry k + 10 ≤ length table
  entry_in k = omega (arith, entry_below k, table_long)

  pub entry_legal : (k : ℕ) → T (legal_entry f.plane table (entry k))
  entry_legal k = legal_at f.plane table a.entries (entry k) (tenth (length table) (units (plane_height f) f.unit_size * units (plane_width f) f.unit_size) (entry k) table_long (entry_below k))
    where
      tenth : (l n e : ℕ) → l ≡ 10 * n → e < n → e < l / 10
      tenth l n e p q = omega arith

  -- ---- every sample of the rectangle names that unit
  pub unit_of : (k y x : ℕ) → y < plane_height f → x < plane_width f → index_of (sub_y_of f) f.unit_size (plane_width f) y x ≡ k → kind_of table (entry k) ≡ unit_at (shape_of f table) y x
  unfolding unit_at rectangle index_of
  unit_of k y x hy hx e =
      ap (kind_of table) (ap2 (λ r c. unit_row_of (sub_y_of f) f.unit_size (plane_height f) r * units (plane_width f) f.unit_size + c)
      (ap (λ (i : ℕ). i / units (plane_width f) f.unit_size) (sym e) ∙ digits_div (stripe_of (sub_y_of f) y) (col_below (size_of sized) (plane_width f) x))
      (ap (λ (i : ℕ). i % units (plane_width f) f.unit_size) (sym e) ∙ digits_mod (stripe_of (sub_y_of f) y) (col_below (size_of sized) (plane_width f) x)))
      ∙ ap (λ (b : Bool). cond b None (kind_of table (unit_row_of (sub_y_of f) f.unit_size (plane_height f) (stripe_of (sub_y_of f) y) * units (plane_width f) f.unit_size + unit_col_of f.unit_size (plane_width f) x))) (sym (ne_eqb f.frame_type 0 (λ z. omega (arith, a.typed))))

-- ---- what the callees answered, by its values
module _ {f : Frame} {table : List ℤ} {scratch : ℕ} (a : Asked f table scratch) (k : ℕ) (l : k < rectangles (sub_y_of f) f.unit_size (plane_height f) (plane_width f)) (w h cols : ℕ) (g : Geometry)
    (ew : w ≡ plane_width f) (eh : h ≡ plane_height f) (eg : g ≡ rectangle (sub_y_of f) f.unit_size (plane_height f) (plane_width f) k) (ec : cols ≡ units (plane_width f) f.unit_size) where
  pub index_is : g.unit_row * cols + g.unit_col ≡ entry a k
  index_is = ap2 (λ (g : Geometry) (c : ℕ). g.unit_row * c + g.unit_col) eg ec

  pub index_small : g.unit_row * cols + g.unit_col ≤ 4294836225
  index_small = let u = unit_counts f a.counts in omega (arith, index_is, entry_below a k, mul-le-mul {n₁ = units (plane_height f) f.unit_size} {m₁ = units (plane_width f) f.unit_size} {n₂ = 65535} {m₂ = 65535} u.0 u.1)

  pub fits : Fit h w (sub_y_of f) g
  fits = rw (ew, eh, eg) (fit (sized a) (plane_height f) (plane_width f) k a.legal.rows a.legal.cols l)

  pub own_rows : (r : Source) → Stripe f (k / units (plane_width f) f.unit_size) r → Own r g.y g.h
  unfolding rectangle
  own_rows r s = rw eg (record { after = omega (arith, s.start); before = omega (arith, s.start, s.stop, (fit (sized a) (plane_height f) (plane_width f) k a.legal.rows a.legal.cols l).high) })

  pub unit_painted : (d : Depth) (kind : Kind) (inside beside : List ℤ) (r : Source) (out : List ℤ) → kind ≡ kind_of table (entry a k) →
      paint g.x g.y g.w g.h w (shown_at d kind inside beside w h r) out
      ≡ paint (rectangle (sub_y_of f) f.unit_size (plane_height f) (plane_width f) k).x (rectangle (sub_y_of f) f.unit_size (plane_height f) (plane_width f) k).y (rectangle (sub_y_of f) f.unit_size (plane_height f) (plane_width f) k).w (rectangle (sub_y_of f) f.unit_size (plane_height f) (plane_width f) k).h (plane_width f) (unit_shown f table d inside beside r) out
  unit_painted d kind inside beside r out e = rw (ew, eh, eg, e) (paint_same _ _ _ _ _ _ _ _ (λ y x i.
      let c = cover (sized a) (plane_height f) (plane_width f) a.legal.rows a.legal.cols in
      ap (λ (K : Kind). shown_at d K inside beside (plane_width f) (plane_height f) r y x)
      (unit_of a k y x (omega (arith, i.bottom, (c.within k l).low)) (omega (arith, i.side, (c.within k l).right)) (c.only k y x l i))))

-- ---- the indices of stripe `at`
module _ (f : Frame) (at cols k : ℕ) (ec : cols ≡ units (plane_width f) f.unit_size) where
  pub in_stripe : at * cols ≤ k → k < at * cols + cols → k / units (plane_width f) f.unit_size ≡ at
  in_stripe lo hi = ap (λ (n : ℕ). k / n) (sym ec) ∙ ap (λ (i : ℕ). i / cols) {y = at * cols + (k - at * cols)} (omega arith) ∙ digits_div at {r = k - at * cols} (omega arith)

  pub below_all : at < stripes (sub_y_of f) (plane_height f) → k < at * cols + cols → k < rectangles (sub_y_of f) f.unit_size (plane_height f) (plane_width f)
  unfolding rectangles
  below_all p hi = subst (λ (n : ℕ). k < stripes (sub_y_of f) (plane_height f) * n) ec (omega (arith, row_le {y = at} {h = stripes (sub_y_of f) (plane_height f)} cols p))

-- an index after a stripe's last fits
pub end_small : {f : Frame} {table : List ℤ} {scratch : ℕ} → Asked f table scratch → (at cols : ℕ) → cols ≡ units (plane_width f) f.unit_size → at < stripes (sub_y_of f) (plane_height f) → at * cols + cols ≤ 134281215
end_small {f = f} a at cols ec p =
    omega (
      arith,
      row_le {y = at} {h = stripes (sub_y_of f) (plane_height f)} cols p,
      mul-le-mul {n₁ = stripes (sub_y_of f) (plane_height f)} {m₁ = cols} {n₂ = 2049} {m₂ = 65535}
          (stripes_small (sub_y_of f) (plane_height f) a.legal.own_y (omega (arith, a.legal.rows_low))) (omega (arith, (unit_counts f a.counts).1)),
    )
