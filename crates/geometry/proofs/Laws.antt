-- Sizes of stripes and units, what an index below the count has, and a place by its fields.
use mathlib.Core.Path.{◌≡◌, ◌∙◌}
use mathlib.Core.Bool.{cond}
use mathlib.Core.Logic.{◌⊎◌, inl, inr}
use Prim.Native.Nat.{ℕ, zero, suc, ◌+◌, ◌-◌, ◌*◌, ◌/◌, ◌%◌, ◌^◌, ◌≤◌, ◌<◌, min}
use native.Mathlib.Omega.{arith}
use native.Mathlib.Numerals.{add-one}
use native.Mathlib.Nat.{le-div_iff_mul-le, div-le_self, div-lt_iff_lt-mul, mod-lt, mul-le-mul, eq-or-lt_of_le, suc-mul}
use lib.Dec.{eqb}
use lib.IntN.{ℤ, pos, nat_abs, ◌-ℤ◌}
use Rattle.laws.specs.Sizes.{abs_sub, abs_shr_le}
use borrow.Author.Tests.{eq-eqb, ne_eqb}
use Rattle.laws.specs.Congruence.{ap5}
use Rattle.laws.specs.SignedCode.{Expression, Nat, Lit, ◌⊝◌}
use Rattle.frames.proofs.Legal.{halved}
use Rattle.standard.specs.declared.Geometry.{Geometry}
use Rattle.standard.specs.Stripes.{units, stripe_start_y_of, stripe_start, stripe_stop, stripe_of, stripes, rectangles, left, right, unit_row_of, stripe_end_y_of, rectangle}
use Rattle.standard.proofs.Stripes.{Halved, full, half, stripe_exists}
use Rattle.geometry.specs.Legal.{Legal}

-- ---- rows
-- `row << sub_y` keeps its bits
pub luma_kept : (sy row : ℕ) → sy ≤ 1 → row ≤ 65535 → (row * 2 ^ sy % 4294967296 ≡ row * 2 ^ sy) × (row * 2 ^ sy ≤ 131070)
luma_kept zero row h k = (omega arith, omega arith)
luma_kept (suc zero) row h k = (omega arith, omega arith)
luma_kept (suc (suc sy)) row h k = absurd (omega arith)

pub stripes_small : (sy h : ℕ) → sy ≤ 1 → h ≤ 65535 → stripes sy h ≤ 2049
unfolding stripes stripe_of
stripes_small zero h p q = omega arith
stripes_small (suc zero) h p q = omega arith
stripes_small (suc (suc sy)) h p q = absurd (omega arith)

-- ---- units
pub units_some : (extent size : ℕ) → 0 < units extent size
unfolding units
units_some extent size = omega arith

pub units_small : (extent size : ℕ) → size ≤ 256 → extent ≤ 65000 → units extent size ≤ 65535
unfolding units
units_small extent size p q = omega (arith, div-le_self (extent + size / 2) size)

-- the arms of `right`, by the code's test
pub right_last : (size w c n : ℕ) → c + 1 ≡ n → n ≡ units w size → w ≡ right size w c
unfolding right
right_last size w c n e u = rw (eq-eqb (suc c) (units w size) (omega arith))

pub right_next : (size w c n : ℕ) → (c + 1 ≡ n → ⊥) → n ≡ units w size → (c + 1) * size ≡ right size w c
unfolding right
right_next size w c n e u = rw (ne_eqb (suc c) (units w size) (λ z. e (omega arith)), add-one)

-- the rectangles' count fits, as the code multiplies it
pub count_small : (sy size h w : ℕ) → Legal sy size h w → {a b : ℕ} → a ≡ stripes sy h → b ≡ units w size → a * b ≤ 134281215
count_small sy size h w l {a = a} {b = b} p q =
    let s : a ≤ 2049 = omega (arith, stripes_small sy h l.half (omega (arith, l.high))) in
    let u : b ≤ 65535 = omega (arith, units_small w size l.small (omega (arith, l.wide))) in
    mul-le-mul s u

-- a unit column starts in the plane, and before it ends
pub left_in : (size w c : ℕ) → 0 < size → c < units w size → c * size ≤ w
unfolding units
left_in size w zero p q = omega arith
left_in size w (suc c) p q = omega (arith, (le-div_iff_mul-le {k = size} {x = suc (suc c)} {y = w + size / 2} p).0 (omega arith), suc-mul (suc c) size)

pub left_right : (size w c : ℕ) → 0 < size → c < units w size → c * size ≤ right size w c
unfolding right
left_right size w c p q = go (eq-or-lt_of_le q)
  where
    go : (suc c ≡ units w size) ⊎ (suc c < units w size) → c * size ≤ cond (eqb (suc c) (units w size)) w (suc c * size)
    go (inl e) = rw (eq-eqb (suc c) (units w size) e) (left_in size w c p q)
    go (inr l) = rw (ne_eqb (suc c) (units w size) (λ e. omega arith)) (omega (arith, suc-mul c size))

-- ---- an index below the count, by its stripe and column, where the code has counted n unit columns
pub record Indexed (sy size h w n i : ℕ) : Type 0 where
  pub some : 0 < n
  pub stripe : i / n ≤ 2048
  pub column : i % n ≤ 65535
  pub fits : i % n * size ≤ 16777216
  pub starts : stripe_start sy (i / n) ≤ min h (stripe_stop sy (i / n))
  pub spans : i % n * size ≤ right size w (i % n)

start_stop : {sy : ℕ} → Halved sy → (s : ℕ) → stripe_start sy s ≤ stripe_stop sy s
unfolding stripe_start stripe_stop
start_stop full s = omega arith
start_stop half s = omega arith

counted : (sy size h w i : ℕ) → Legal sy size h w → i < rectangles sy size h w → Indexed sy size h w (units w size) i
unfolding rectangles
counted sy size h w i l p =
    let k = halved sy l.half in
    let s = units_some w size in
    let q : i / units w size < stripes sy h = (div-lt_iff_lt-mul s).1 p in
    let m : i % units w size < units w size = mod-lt i s in
    let n = units_small w size l.small (omega (arith, l.wide)) in
    let r : i % units w size ≤ 65536 = omega (arith, m, n) in
    record {
      some = s;
      stripe = omega (arith, q, stripes_small sy h l.half (omega (arith, l.high)));
      column = omega (arith, m, n);
      fits = mul-le-mul r l.small;
      starts = omega (arith, (stripe_exists k h (i / units w size) l.rows).0 q, start_stop k (i / units w size));
      spans = left_right size w (i % units w size) l.unit m;
    }

pub indexed : (sy size h w n i : ℕ) → n ≡ units w size → Legal sy size h w → i < rectangles sy size h w → Indexed sy size h w n i
indexed sy size h w n i e l p = rw e (counted sy size h w i l p)

-- ---- sizes of the signed rows
pub start_small : (sy s : ℕ) → s ≤ 65535 → nat_abs (stripe_start_y_of sy s) ≤ 4194248
unfolding stripe_start_y_of
start_small sy s h = omega (arith, abs_shr_le (pos (64 * s) -ℤ pos 8) (2 ^ sy), abs_sub (pos (64 * s)) (pos 8))

pub rows_small : (sy : ℕ) → 64 / 2 ^ sy ≤ 64
rows_small sy = div-le_self 64 (2 ^ sy)

-- the plane's last row or column
abbrev pub last_one : (n : ℕ) → n ≤ 16384 → Expression
last_one n h = Nat n 16384 h ⊝ Lit (pos 1)

-- ---- a place, field by field
abbrev pub place : ℕ → ℕ → ℕ → ℕ → ℕ → ℕ → ℤ → ℤ → ℤ → ℤ → Geometry
place row col x y w h start end endX endY = record {
  unit_row = row;
  unit_col = col;
  x = x;
  y = y;
  w = w;
  h = h;
  stripe_start_y = start;
  stripe_end_y = end;
  plane_end_x = endX;
  plane_end_y = endY;
}

pub placed : {r r' c c' x x' y y' w w' h h' : ℕ} {s s' e e' p p' q q' : ℤ} →
    r ≡ r' → c ≡ c' → x ≡ x' → y ≡ y' → w ≡ w' → h ≡ h' → s ≡ s' → e ≡ e' → p ≡ p' → q ≡ q' → place r c x y w h s e p q ≡ place r' c' x' y' w' h' s' e' p' q'
placed {r' = r'} {c' = c'} {x' = x'} {y' = y'} {w' = w'} {h = h} {s = s} {e = e} {p = p} {q = q} er ec ex ey ew eh es ee ep eq =
    ap5 (λ a b c d f. place a b c d f h s e p q) er ec ex ey ew ∙ ap5 (λ a b c d f. place r' c' x' y' w' a b c d f) eh es ee ep eq

-- the rectangle, where the code has counted n unit columns
pub rectangle_by : (sy size h w n i : ℕ) → n ≡ units w size →
    place (unit_row_of sy size h (i / n)) (i % n) (i % n * size) (stripe_start sy (i / n)) (right size w (i % n) - i % n * size)
    (min h (stripe_stop sy (i / n)) - stripe_start sy (i / n)) (stripe_start_y_of sy (i / n)) (stripe_end_y_of sy (i / n)) (pos w -ℤ pos 1) (pos h -ℤ pos 1)
    ≡ rectangle sy size h w i
unfolding rectangle left
rectangle_by sy size h w n i e = rw e
