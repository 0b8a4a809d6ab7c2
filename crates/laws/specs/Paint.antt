-- A rectangle of a plane that is w wide, painted with the values of a function of absolute coordinates.
use Rattle.std.specs.Prelude.{◌≡◌, List, ℕ, ◌+◌, ◌*◌, ◌-◌, ◌<◌, ◌≤◌, length, get_or}
use Rattle.std.proofs.Common.{sym, ◌∙◌, ap, arith, add-mul}
use Rattle.laws.specs.Congruence.{ap2}
use Rattle.laws.specs.Index.{row_le, cell_row, cell_col}
use Rattle.laws.specs.Rows.{rows, rows_inside, rows_outside, rows_length, rows_same}

-- a rectangle lies within a plane
pub record Within (x0 y0 rw rh w h : ℕ) : Type 0 where
  pub right : x0 + rw ≤ w
  pub low : y0 + rh ≤ h

-- a cell lies within a rectangle
pub record Inside (x0 y0 rw rh y x : ℕ) : Type 0 where
  pub top : y0 ≤ y
  pub bottom : y < y0 + rh
  pub left : x0 ≤ x
  pub side : x < x0 + rw

module _ {A : Type 0} where
  abbrev pub paint : (x0 y0 rw rh w : ℕ) → (ℕ → ℕ → A) → List A → List A
  paint x0 y0 rw rh w f d = rows (λ y x. f (y0 + y) (x0 + x)) (y0 * w + x0) w rw rh d

  module _ (x0 y0 rw rh w h : ℕ) (f : ℕ → ℕ → A) (d l : List A) (e : l ≡ paint x0 y0 rw rh w f d) (p : Within x0 y0 rw rh w h) where
    pub paint_length : length l ≡ length d
    paint_length = ap length e ∙ rows_length _ _ _ _ _ _

    pub paint_inside : (y x : ℕ) (z : A) → h * w ≤ length d → Inside x0 y0 rw rh y x → get_or l (y * w + x) z ≡ f y x
    paint_inside y x z long i =
        let u : y0 + (y - y0) ≡ y = omega arith in
        let v : x0 + (x - x0) ≡ x = omega arith in
        let k : y * w + x ≡ y0 * w + x0 + (y - y0) * w + (x - x0) = omega (arith, sym (ap (λ (n : ℕ). n * w) u) ∙ add-mul y0 (y - y0) w) in
        ap (λ (s : List A). get_or s (y * w + x) z) e
        ∙ ap (λ (n : ℕ). get_or (paint x0 y0 rw rh w f d) n z) k
        ∙ rows_inside (λ y x. f (y0 + y) (x0 + x)) (y0 * w + x0) w rw rh d (y - y0) (x - x0) z (omega arith) (omega arith) (omega arith) (λ n q. omega (arith, row_le {y = y0 + n} {h = h} w (omega arith), add-mul y0 n w))
        ∙ ap2 f u v

    pub paint_outside : (y x : ℕ) (z : A) → x < w → (Inside x0 y0 rw rh y x → ⊥) → get_or l (y * w + x) z ≡ get_or d (y * w + x) z
    paint_outside y x z q n =
        ap (λ (s : List A). get_or s (y * w + x) z) e
        ∙ rows_outside (λ y x. f (y0 + y) (x0 + x)) (y0 * w + x0) w rw rh d (y * w + x) z (λ y' x' a b g. apart y' x' a b (omega (arith, add-mul y0 y' w)))
      where
        apart : (y' x' : ℕ) → y' < rh → x' < rw → y * w + x ≡ (y0 + y') * w + (x0 + x') → ⊥
        apart y' x' a b g =
            let r : y ≡ y0 + y' = cell_row y (y0 + y') q (omega arith) g in
            let s : x ≡ x0 + x' = cell_col y (y0 + y') q (omega arith) g in
            n (record { top = omega arith; bottom = omega arith; left = omega arith; side = omega arith })

  -- the same values inside, the same picture
  pub paint_same : (x0 y0 rw rh w : ℕ) (f g : ℕ → ℕ → A) (d : List A) → ((y x : ℕ) → Inside x0 y0 rw rh y x → f y x ≡ g y x) → paint x0 y0 rw rh w f d ≡ paint x0 y0 rw rh w g d
  paint_same x0 y0 rw rh w f g d h = rows_same _ _ (y0 * w + x0) w rw rh d (λ y x p q. h (y0 + y) (x0 + x) (record { top = omega arith; bottom = omega arith; left = omega arith; side = omega arith }))
