-- The rectangles cover each sample once, name the unit that the specification's block derivation names, and no unit is empty.
use mathlib.Core.Path.{◌≡◌, ap, ◌∙◌, sym}
use mathlib.Core.Logic.{◌⊎◌, inl, inr}
use mathlib.Core.Bool.{cond}
use Prim.Native.Nat.{ℕ, suc, ◌+◌, ◌-◌, ◌*◌, ◌/◌, ◌%◌, ◌^◌, ◌≤◌, ◌<◌, min}
use native.Mathlib.Omega.{arith}
use native.Mathlib.Nat.{mod-lt, div-add-mod', div-lt_iff_lt-mul, eq-or-lt_of_le, suc-mul}
use lib.Arith.{digits_lt, digits_div, digits_mod}
use Rattle.standard.proofs.Stripes.{stripe_exists, span, Halved, Size, Sized, full, full_128, full_256, full_64, half, half_128, half_256, half_32, half_64, halved, s128, s256, s32, s64, size_of, stripe_below, stripe_is}
use Rattle.standard.specs.declared.Geometry.{Geometry}
use borrow.Author.Tests.{eq-eqb, ne_eqb}
use Rattle.laws.specs.Paint.{Inside}
use Rattle.laws.specs.Cover.{Cover}
use Rattle.standard.specs.Stripes.{stripes, block, stripe_start_y_of, stripe_end_y_of, block_of, left, rectangle, rectangles, right, stripe_of, unit_col_of, unit_row_of, units}

-- ---- the units are those of the specification's derivation
pub unit_row : {sy size : ℕ} → Sized sy size → (sx h w y col : ℕ) → unit_row_of sy size h (stripe_of sy y) ≡ (block sx sy size h w (block_of sy y) col).unit_row
unfolding unit_row_of block stripe_of block_of
unit_row {size = size} full_64 sx h w y col = ap (min (units h size - 1)) (omega arith)
unit_row {size = size} full_128 sx h w y col = ap (min (units h size - 1)) (omega arith)
unit_row {size = size} full_256 sx h w y col = ap (min (units h size - 1)) (omega arith)
unit_row {size = size} half_32 sx h w y col = ap (min (units h size - 1)) (omega arith)
unit_row {size = size} half_64 sx h w y col = ap (min (units h size - 1)) (omega arith)
unit_row {size = size} half_128 sx h w y col = ap (min (units h size - 1)) (omega arith)
unit_row {size = size} half_256 sx h w y col = ap (min (units h size - 1)) (omega arith)

even_div : {sx size : ℕ} → Halved sx → Size size → (x : ℕ) → x / size ≡ x * 2 ^ sx / 4 * 4 / 2 ^ sx / size
even_div full s32 x = omega arith
even_div full s64 x = omega arith
even_div full s128 x = omega arith
even_div full s256 x = omega arith
even_div half s32 x = omega arith
even_div half s64 x = omega arith
even_div half s128 x = omega arith
even_div half s256 x = omega arith

pub unit_col : {sx size : ℕ} → Halved sx → Size size → (sy h w x row : ℕ) → unit_col_of size w x ≡ (block sx sy size h w row (block_of sx x)).unit_col
unfolding unit_col_of block block_of
unit_col {size = size} k s sy h w x row = ap (min (units w size - 1)) (even_div k s x)

-- and so is the stripe
pub block_stripe : {sy : ℕ} → Halved sy → (y : ℕ) → stripe_of sy y ≡ (block_of sy y * 4 + 8) / 64
unfolding stripe_of block_of
block_stripe full y = omega arith
block_stripe half y = omega arith

-- ---- columns
right_last : (size w c : ℕ) → suc c ≡ units w size → right size w c ≡ w
unfolding right
right_last size w c e = ap (λ b. cond b w (suc c * size)) (eq-eqb (suc c) (units w size) e)

right_inner : (size w c : ℕ) → suc c < units w size → right size w c ≡ suc c * size
unfolding right
right_inner size w c h = ap (λ b. cond b w (suc c * size)) (ne_eqb (suc c) (units w size) (λ e. omega arith))

-- column c of the units holds x exactly when it is x's unit column
pub record Cols (size w c x : ℕ) : Type 0 where
  pub from : left size c ≤ x
  pub to : x < right size w c

col_from : {size : ℕ} → Size size → (w x : ℕ) → left size (unit_col_of size w x) ≤ x
unfolding left unit_col_of units
col_from s32 w x = omega arith
col_from s64 w x = omega arith
col_from s128 w x = omega arith
col_from s256 w x = omega arith

col_inner : {size : ℕ} → Size size → (w x : ℕ) → suc (unit_col_of size w x) < units w size → x < suc (unit_col_of size w x) * size
unfolding unit_col_of units
col_inner s32 w x h = omega arith
col_inner s64 w x h = omega arith
col_inner s128 w x h = omega arith
col_inner s256 w x h = omega arith

pub col_below : {size : ℕ} → Size size → (w x : ℕ) → unit_col_of size w x < units w size
unfolding unit_col_of units
col_below s32 w x = omega arith
col_below s64 w x = omega arith
col_below s128 w x = omega arith
col_below s256 w x = omega arith

col_only_last : {size : ℕ} → Size size → (w x c : ℕ) → suc c ≡ units w size → left size c ≤ x → c ≡ unit_col_of size w x
unfolding left unit_col_of units
col_only_last s32 w x c e h = omega arith
col_only_last s64 w x c e h = omega arith
col_only_last s128 w x c e h = omega arith
col_only_last s256 w x c e h = omega arith

col_only_inner : {size : ℕ} → Size size → (w x c : ℕ) → suc c < units w size → left size c ≤ x → x < suc c * size → c ≡ unit_col_of size w x
unfolding left unit_col_of units
col_only_inner s32 w x c e h k = omega arith
col_only_inner s64 w x c e h k = omega arith
col_only_inner s128 w x c e h k = omega arith
col_only_inner s256 w x c e h k = omega arith

pub cols : {size : ℕ} → Size size → (w x : ℕ) → x < w → Cols size w (unit_col_of size w x) x
cols {size = size} k w x h = record { from = col_from k w x; to = go (eq-or-lt_of_le (col_below k w x)) }
  where
    go : (suc (unit_col_of size w x) ≡ units w size) ⊎ (suc (unit_col_of size w x) < units w size) → x < right size w (unit_col_of size w x)
    go (inl e) = rw (right_last size w (unit_col_of size w x) e) h
    go (inr p) = rw (right_inner size w (unit_col_of size w x) p) (col_inner k w x p)

pub col_is : {size w c x : ℕ} → Size size → c < units w size → Cols size w c x → c ≡ unit_col_of size w x
col_is {size = size} {w = w} {c = c} {x = x} k h in_c = go (eq-or-lt_of_le h)
  where
    go : (suc c ≡ units w size) ⊎ (suc c < units w size) → c ≡ unit_col_of size w x
    go (inl e) = col_only_last k w x c e in_c.from
    go (inr p) = col_only_inner k w x c p in_c.from (rw (right_inner size w c p) at in_c.to)

-- ---- rectangles
abbrev pub In : Geometry → ℕ → ℕ → Type 0
In r y x = Inside r.x r.y r.w r.h y x

-- the one rectangle of a sample
unfoldable pub index_of : ℕ → ℕ → ℕ → ℕ → ℕ → ℕ
index_of sy size w y x = stripe_of sy y * units w size + unit_col_of size w x

module _ {sy size : ℕ} (k : Sized sy size) (h w y x : ℕ) (hy : y < h) (hx : x < w) where
  col< : unit_col_of size w x < units w size
  col< = col_below (size_of k) w x

  index_div : index_of sy size w y x / units w size ≡ stripe_of sy y
  unfolding index_of
  index_div = digits_div (stripe_of sy y) col<

  index_mod : index_of sy size w y x % units w size ≡ unit_col_of size w x
  unfolding index_of
  index_mod = digits_mod (stripe_of sy y) col<

  pub index_below : index_of sy size w y x < rectangles sy size h w
  unfolding index_of rectangles
  index_below = digits_lt (stripe_below (halved k) h y hy) col<

  -- each sample lies in its rectangle
  pub covered : In (rectangle sy size h w (index_of sy size w y x)) y x
  unfolding rectangle
  covered = rw (index_div, index_mod) (record {
    top = (span (halved k) y).from;
    bottom = omega (arith, (span (halved k) y).from, (span (halved k) y).to);
    left = (cols (size_of k) w x hx).from;
    side = omega (arith, (cols (size_of k) w x hx).from, (cols (size_of k) w x hx).to);
  })

  -- whose unit and stripe are those of the specification's block there
  pub named : {sx : ℕ} → Halved sx →
      ((rectangle sy size h w (index_of sy size w y x)).unit_row ≡ (block sx sy size h w (block_of sy y) (block_of sx x)).unit_row)
      × ((rectangle sy size h w (index_of sy size w y x)).unit_col ≡ (block sx sy size h w (block_of sy y) (block_of sx x)).unit_col)
      × ((rectangle sy size h w (index_of sy size w y x)).stripe_start_y ≡ (block sx sy size h w (block_of sy y) (block_of sx x)).stripe_start_y)
      × ((rectangle sy size h w (index_of sy size w y x)).stripe_end_y ≡ (block sx sy size h w (block_of sy y) (block_of sx x)).stripe_end_y)
  unfolding rectangle block
  named {sx = sx} kx =
      let e : index_of sy size w y x / units w size ≡ (block_of sy y * 4 + 8) / 64 = index_div ∙ block_stripe (halved k) y in
      (ap (unit_row_of sy size h) index_div ∙ unit_row k sx h w y (block_of sx x), index_mod ∙ unit_col kx (size_of k) sy h w x (block_of sy y), ap (stripe_start_y_of sy) e, ap (stripe_end_y_of sy) e)

  -- and in no other
  pub once : (i : ℕ) → i < rectangles sy size h w → In (rectangle sy size h w i) y x → i ≡ index_of sy size w y x
  unfolding rectangle rectangles index_of
  once i hi r =
      let n_pos : 0 < units w size = omega (arith, col<) in
      let m : i % units w size < units w size = mod-lt i n_pos in
      let es : stripe_of sy y ≡ i / units w size = stripe_is (halved k) (record { from = r.top; to = omega (arith, r.bottom) }) in
      let ec : i % units w size ≡ unit_col_of size w x = col_is (size_of k) m (record { from = r.left; to = omega (arith, r.side) }) in
      sym (div-add-mod' i (units w size)) ∙ rw (es, ec)

-- ---- every unit has a sample : its first row and column are size times its numbers
pub has_row : {sy size : ℕ} → Sized sy size → (h r : ℕ) → 0 < h → r < units h size → (r * size < h) × (unit_row_of sy size h (stripe_of sy (r * size)) ≡ r)
unfolding units unit_row_of stripe_of
has_row full_64 h r p q = (omega arith, omega arith)
has_row full_128 h r p q = (omega arith, omega arith)
has_row full_256 h r p q = (omega arith, omega arith)
has_row half_32 h r p q = (omega arith, omega arith)
has_row half_64 h r p q = (omega arith, omega arith)
has_row half_128 h r p q = (omega arith, omega arith)
has_row half_256 h r p q = (omega arith, omega arith)

pub has_col : {size : ℕ} → Size size → (w c : ℕ) → 0 < w → c < units w size → (c * size < w) × (unit_col_of size w (c * size) ≡ c)
unfolding units unit_col_of
has_col s32 w c p q = (omega arith, omega arith)
has_col s64 w c p q = (omega arith, omega arith)
has_col s128 w c p q = (omega arith, omega arith)
has_col s256 w c p q = (omega arith, omega arith)

-- ---- together: a plane painted rectangle by rectangle is painted whole
right_le : {size : ℕ} → Size size → (w c : ℕ) → 0 < w → c < units w size → (left size c ≤ right size w c) × (right size w c ≤ w)
unfolding left
right_le {size = size} k w c p q = go (eq-or-lt_of_le q)
  where
    go : (suc c ≡ units w size) ⊎ (suc c < units w size) → (c * size ≤ right size w c) × (right size w c ≤ w)
    go (inl e) = rw (right_last size w c e) (omega (arith, (has_col k w c p q).0), omega arith)
    go (inr l) = rw (right_inner size w c l) (omega (arith, suc-mul c size), omega (arith, (has_col k w (suc c) p l).0))

pub cover : {sy size : ℕ} → Sized sy size → (h w : ℕ) → 0 < h → 0 < w →
    Cover (rectangles sy size h w) w h (λ i. (rectangle sy size h w i).x) (λ i. (rectangle sy size h w i).y) (λ i. (rectangle sy size h w i).w) (λ i. (rectangle sy size h w i).h) (λ y x. index_of sy size w y x)
unfolding rectangle rectangles
cover {sy = sy} {size = size} k h w ph pw = record {
  within = λ i l. record {
    right = omega (arith, right_le (size_of k) w (i % units w size) pw (col i));
    low = omega (arith, (stripe_exists (halved k) h (i / units w size) ph).0 (down i l));
  };
  has = λ y x p q. covered k h w y x p q;
  only = λ i y x l r. sym (once k h w y x (omega (arith, r.bottom, (stripe_exists (halved k) h (i / units w size) ph).0 (down i l))) (omega (arith, r.side, right_le (size_of k) w (i % units w size) pw (col i))) i l r);
  below = λ y x p q. index_below k h w y x p q;
}
  where
    some : 0 < units w size
    some = omega (arith, col_below (size_of k) w 0)

    col : (i : ℕ) → i % units w size < units w size
    col i = mod-lt i some

    down : (i : ℕ) → i < stripes sy h * units w size → i / units w size < stripes sy h
    down i l = (div-lt_iff_lt-mul some).1 l
