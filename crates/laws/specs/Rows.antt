-- A rectangle of a row-major list: n rows of w values of f, from place `at` on, one row `st` places after the other.
use Rattle.std.specs.Prelude.{◌≡◌, List, length}
use Rattle.std.proofs.Math.Path.{refl, ap, subst}
use Rattle.std.proofs.Common.{sym, ◌∙◌, arith, not-suc-le-zero, eq-or-lt_of_le, le_of_suc-le-suc, le_trans, le_refl, add-one}
use Rattle.std.proofs.Math.Logic.{⊎_elim}
use Prim.Native.Nat.{ℕ, zero, suc, ◌+◌, ◌*◌, ◌<◌, ◌≤◌}
use Rattle.std.proofs.Math.ListN.{get_or}
use Rattle.laws.specs.Runs.{stamp, stamp_length, stamp_outside, stamp_inside, stamp_same}
use Rattle.laws.specs.Index.{cell_lt, row_le}

module _ {A : Type 0} where
  unfoldable pub rows : (ℕ → ℕ → A) → ℕ → ℕ → ℕ → ℕ → List A → List A
  rows f at st w zero d = d
  rows f at st w (suc n) d = stamp (f n) (at + n * st) w (rows f at st w n d)

  pub rows_none : (f : ℕ → ℕ → A) (at st w : ℕ) (d : List A) → d ≡ rows f at st w 0 d
  unfolding rows
  rows_none f at st w d = refl

  -- one more row, as a row function left it
  pub rows_more : (f : ℕ → ℕ → A) (at st w n : ℕ) (d l m : List A) (g : ℕ → A) (i : ℕ) → m ≡ stamp g i w l → l ≡ rows f at st w n d → i ≡ at + n * st → ((k : ℕ) → k < w → g k ≡ f n k) → m ≡ rows f at st w (n + 1) d
  unfolding rows
  rows_more f at st w n d l m g i e p q r = e ∙ rw (add-one, p, q, stamp_same g (f n) (at + n * st) w (rows f at st w n d) r)

  pub rows_length : (f : ℕ → ℕ → A) (at st w n : ℕ) (d : List A) → length (rows f at st w n d) ≡ length d
  unfolding rows
  rows_length f at st w zero d = refl
  rows_length f at st w (suc n) d = stamp_length (f n) (at + n * st) w (rows f at st w n d) ∙ rows_length f at st w n d

  -- outside nothing changed
  pub rows_outside : (f : ℕ → ℕ → A) (at st w n : ℕ) (d : List A) (i : ℕ) (z : A) → ((y x : ℕ) → y < n → x < w → i ≡ at + y * st + x → ⊥) → get_or (rows f at st w n d) i z ≡ get_or d i z
  unfolding rows
  rows_outside f at st w zero d i z h = refl
  rows_outside f at st w (suc n) d i z h =
      stamp_outside (f n) (at + n * st) w (rows f at st w n d) i z (λ k l e. h n k (omega arith) l e)
      ∙ rows_outside f at st w n d i z (λ y x l m e. h y x (omega arith) m e)

  -- inside stands f
  pub rows_inside : (f : ℕ → ℕ → A) (at st w n : ℕ) (d : List A) (y x : ℕ) (z : A) → y < n → x < w → w ≤ st → ((k : ℕ) → k < n → at + k * st + w ≤ length d) → get_or (rows f at st w n d) (at + y * st + x) z ≡ f y x
  unfolding rows
  rows_inside f at st w zero d y x z p q s h = absurd (not-suc-le-zero p)
  rows_inside f at st w (suc n) d y x z p q s h = ⊎_elim
      (λ (e : y ≡ n). subst (λ (j : ℕ). get_or (stamp (f n) (at + n * st) w (rows f at st w n d)) (at + j * st + x) z ≡ f j x) (sym e) (stamp_inside (f n) (at + n * st) w (rows f at st w n d) x z q (omega (arith, rows_length f at st w n d, h n (omega arith)))))
      (λ (m : y < n). stamp_outside (f n) (at + n * st) w (rows f at st w n d) (at + y * st + x) z (λ k l e. omega (arith, cell_lt {x = x} {w = st} m (omega arith))) ∙ rows_inside f at st w n d y x z m q s (λ k l. h k (omega arith)))
      (eq-or-lt_of_le (le_of_suc-le-suc p))

  -- the same values, the same rows
  pub rows_same : (f g : ℕ → ℕ → A) (at st w n : ℕ) (d : List A) → ((y x : ℕ) → y < n → x < w → f y x ≡ g y x) → rows f at st w n d ≡ rows g at st w n d
  unfolding rows
  rows_same f g at st w zero d h = refl
  rows_same f g at st w (suc n) d h =
      stamp_same (f n) (g n) (at + n * st) w (rows f at st w n d) (λ k l. h n k (omega arith) l)
      ∙ ap (stamp (g n) (at + n * st) w) (rows_same f g at st w n d (λ y x l m. h y x (omega arith) m))

  -- what lies before a rectangle, or after it, is as it was
  pub rows_before : (f : ℕ → ℕ → A) (at st w n : ℕ) (d l : List A) (i : ℕ) (z : A) → l ≡ rows f at st w n d → i < at → get_or l i z ≡ get_or d i z
  rows_before f at st w n d l i z e h = ap (λ (s : List A). get_or s i z) e ∙ rows_outside f at st w n d i z (λ y x p q r. omega arith)

  pub rows_after : (f : ℕ → ℕ → A) (at st w n : ℕ) (d l : List A) (i : ℕ) (z : A) → l ≡ rows f at st w n d → w ≤ st → at + n * st ≤ i → get_or l i z ≡ get_or d i z
  rows_after f at st w n d l i z e s h = ap (λ (t : List A). get_or t i z) e ∙ rows_outside f at st w n d i z (λ y x p q r. omega (arith, cell_lt {w = st} p (le_trans q s)))

  -- a cell of an area that is full of rows
  pub area_at : (f : ℕ → ℕ → A) (at w n : ℕ) (d l : List A) (y x : ℕ) (z : A) → l ≡ rows f at w w n d → at + n * w ≤ length d → y < n → x < w → get_or l (at + y * w + x) z ≡ f y x
  area_at f at w n d l y x z e h p q = ap (λ (t : List A). get_or t (at + y * w + x) z) e ∙ rows_inside f at w w n d y x z p q (le_refl w) (λ k r. omega (arith, row_le w r))
