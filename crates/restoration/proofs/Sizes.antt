-- The sides of a rectangle of a legal frame: not empty, at most 383 by 64, inside the plane, and the scratch has room for it.
use mathlib.Core.Path.{◌≡◌}
use mathlib.Core.Logic.{◌⊎◌, inl, inr}
use mathlib.Core.Bool.{cond}
use Prim.Native.Nat.{ℕ, suc, ◌+◌, ◌-◌, ◌*◌, ◌/◌, ◌%◌, ◌^◌, ◌≤◌, ◌<◌, min}
use native.Mathlib.Omega.{arith}
use native.Mathlib.Nat.{mod-lt, div-lt_iff_lt-mul, eq-or-lt_of_le, mul-le-mul, suc-mul}
use borrow.Author.Tests.{eq-eqb, ne_eqb}
use lib.Dec.{eqb}
use Rattle.laws.specs.Paint.{Within}
use Rattle.standard.specs.declared.Geometry.{Geometry}
use Rattle.standard.specs.Stripes.{left, rectangle, rectangles, right, stripes, stripe_start, stripe_stop, unit_row_of, units}
use Rattle.standard.specs.Refusals.{scratch_need}
use Rattle.standard.proofs.Stripes.{Halved, Size, Sized, full, half, halved, s128, s256, s32, s64, size_of, stripe_exists}
use Rattle.standard.proofs.Rectangles.{cover}
use Rattle.geometry.proofs.Laws.{units_some}

last_width : {size : ℕ} → Size size → (w c : ℕ) → 0 < w → suc c ≡ units w size → (c * size < w) × (w - c * size ≤ 383)
unfolding units
last_width s32 w c p e = (omega arith, omega arith)
last_width s64 w c p e = (omega arith, omega arith)
last_width s128 w c p e = (omega arith, omega arith)
last_width s256 w c p e = (omega arith, omega arith)

pub size_small : {size : ℕ} → Size size → (1 ≤ size) × (size ≤ 256)
size_small s32 = (omega arith, omega arith)
size_small s64 = (omega arith, omega arith)
size_small s128 = (omega arith, omega arith)
size_small s256 = (omega arith, omega arith)

col_width : {size : ℕ} → Size size → (w c : ℕ) → 0 < w → c < units w size → (0 < right size w c - left size c) × (right size w c - left size c ≤ 383)
unfolding left right
col_width {size = size} k w c p q = go (eq-or-lt_of_le q)
  where
    go : (suc c ≡ units w size) ⊎ (suc c < units w size) →
        (0 < cond (eqb (suc c) (units w size)) w (suc c * size) - c * size) × (cond (eqb (suc c) (units w size)) w (suc c * size) - c * size ≤ 383)
    go (inl e) = rw (eq-eqb (suc c) (units w size) e) (omega (arith, last_width k w c p e), (last_width k w c p e).1)
    go (inr l) = rw (ne_eqb (suc c) (units w size) (λ e. omega arith)) (omega (arith, suc-mul c size, size_small k), omega (arith, suc-mul c size, size_small k))

row_height : {sy : ℕ} → Halved sy → (h s : ℕ) → stripe_start sy s < h → (0 < min h (stripe_stop sy s) - stripe_start sy s) × (min h (stripe_stop sy s) - stripe_start sy s ≤ 64 / 2 ^ sy) × (64 / 2 ^ sy ≤ 64)
unfolding stripe_start stripe_stop
row_height full h s p = (omega arith, omega arith, omega arith)
row_height half h s p = (omega arith, omega arith, omega arith)

-- ---- the rectangle of index i
pub record Fit (h w sy : ℕ) (g : Geometry) : Type 0 where
  pub wide : 0 < g.w
  pub wide_low : g.w ≤ 383
  pub high : 0 < g.h
  pub high_low : g.h ≤ 64
  pub within : Within g.x g.y g.w g.h w h
  pub room : 6 * (g.w + 8) * (g.h + 8) ≤ scratch_need sy h w

least : (a b c : ℕ) → a ≤ b → a ≤ c → a ≤ min b c
least a b c p q = omega arith

pub fit : {sy size : ℕ} → Sized sy size → (h w i : ℕ) → 0 < h → 0 < w → i < rectangles sy size h w → Fit h w sy (rectangle sy size h w i)
unfolding rectangle scratch_need rectangles
fit {sy = sy} {size = size} k h w i ph pw l =
    let some : 0 < units w size = units_some w size in
    let s< : i / units w size < stripes sy h = (div-lt_iff_lt-mul some).1 l in
    let cw = col_width (size_of k) w (i % units w size) pw (mod-lt i some) in
    let rh = row_height (halved k) h (i / units w size) ((stripe_exists (halved k) h (i / units w size) ph).0 s<) in
    let inn = (cover k h w ph pw).within i l in
    record {
      wide = cw.0;
      wide_low = cw.1;
      high = rh.0;
      high_low = omega (arith, rh.1, rh.2);
      within = inn;
      room = mul-le-mul {n₁ = 6 * (right size w (i % units w size) - left size (i % units w size) + 8)} {m₁ = min h (stripe_stop sy (i / units w size)) - stripe_start sy (i / units w size) + 8} {n₂ = 6 * (min w 383 + 8)} {m₂ = min h (64 / 2 ^ sy) + 8}
          (omega (arith, least _ w 383 (omega (arith, inn.right)) cw.1))
          (omega (arith, least _ h (64 / 2 ^ sy) (omega arith) rh.1));
    }

-- ---- its unit
pub unit_below : (sy size h w i : ℕ) → ((rectangle sy size h w i).unit_row < units h size) × ((rectangle sy size h w i).unit_col < units w size)
unfolding rectangle unit_row_of
unit_below sy size h w i = (omega (arith, units_some h size), mod-lt i (units_some w size))
