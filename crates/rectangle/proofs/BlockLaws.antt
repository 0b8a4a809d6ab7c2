-- Two rectangles side by side are one: runs at places apart may be written in either order, so row by row the two parts join.
use mathlib.Core.Path.{◌≡◌, refl, ◌∙◌, ap}
use mathlib.Core.List.{List}
use Prim.Native.Nat.{ℕ, zero, suc, ◌+◌, ◌*◌, ◌<◌, ◌≤◌}
use native.Mathlib.Omega.{arith}
use lib.ListN.{set}
use Rattle.laws.specs.Index.{row_le}
use Rattle.laws.specs.Runs.{stamp, stamp_set, stamp_join}
use Rattle.laws.specs.Rows.{rows, rows_same}
use Rattle.laws.specs.Paint.{paint}

module _ {A : Type 0} where
  stamp_stamp : (f g : ℕ → A) (at n i m : ℕ) (l : List A) → at + n ≤ i → stamp f at n (stamp g i m l) ≡ stamp g i m (stamp f at n l)
  unfolding stamp
  stamp_stamp f g at n i zero l h = refl
  stamp_stamp f g at n i (suc m) l h =
      stamp_set f at n (i + m) (g m) (stamp g i m l) (λ k p e. omega arith) ∙ ap (λ (t : List A). set t (i + m) (g m)) (stamp_stamp f g at n i m l h)

  -- rows above a run
  rows_stamp : (f : ℕ → ℕ → A) (g : ℕ → A) (at st w n i m : ℕ) (l : List A) → ((k : ℕ) → k < n → at + k * st + w ≤ i) → rows f at st w n (stamp g i m l) ≡ stamp g i m (rows f at st w n l)
  unfolding rows
  rows_stamp f g at st w zero i m l h = refl
  rows_stamp f g at st w (suc n) i m l h =
      ap (stamp (f n) (at + n * st) w) (rows_stamp f g at st w n i m l (λ k p. h k (omega arith)))
      ∙ stamp_stamp (f n) g (at + n * st) w i m (rows f at st w n l) (h n (omega arith))

  rows_beside : (f : ℕ → ℕ → A) (at st v w n : ℕ) (l : List A) → v + w ≤ st →
      rows (λ y x. f y (v + x)) (at + v) st w n (rows f at st v n l) ≡ rows f at st (v + w) n l
  unfolding rows
  rows_beside f at st v w zero l h = refl
  rows_beside f at st v w (suc n) l h =
      ap (stamp (λ x. f n (v + x)) (at + v + n * st) w) (rows_stamp (λ y x. f y (v + x)) (f n) (at + v) st w n (at + n * st) v (rows f at st v n l) (λ k p. omega (arith, row_le {y = k} {h = n} st p)))
      ∙ ap (λ (i : ℕ). stamp (λ x. f n (v + x)) i w (stamp (f n) (at + n * st) v (rows (λ y x. f y (v + x)) (at + v) st w n (rows f at st v n l)))) {y = at + n * st + v} (omega arith)
      ∙ stamp_join (f n) (at + n * st) v w (rows (λ y x. f y (v + x)) (at + v) st w n (rows f at st v n l))
      ∙ ap (stamp (f n) (at + n * st) (v + w)) (rows_beside f at st v w n l h)

  pub paint_none : (x0 y0 rh w : ℕ) (f : ℕ → ℕ → A) (d : List A) → d ≡ paint x0 y0 0 rh w f d
  unfolding rows stamp
  paint_none x0 y0 zero w f d = refl
  paint_none x0 y0 (suc n) w f d = paint_none x0 y0 n w f d

  -- a rectangle that is painted on to the right, v columns so far
  pub paint_on : (x0 y0 v n rh w : ℕ) (f : ℕ → ℕ → A) (d l m : List A) → l ≡ paint x0 y0 v rh w f d → m ≡ paint (x0 + v) y0 n rh w f l → x0 + v + n ≤ w → m ≡ paint x0 y0 (v + n) rh w f d
  paint_on x0 y0 v n rh w f d l m e g h =
      g ∙ rows_same _ (λ y k. f (y0 + y) (x0 + (v + k))) (y0 * w + (x0 + v)) w n rh l (λ y k q r. ap (f (y0 + y)) (omega arith))
      ∙ ap (λ (i : ℕ). rows (λ y k. f (y0 + y) (x0 + (v + k))) i w n rh l) {y = y0 * w + x0 + v} (omega arith)
      ∙ ap (rows (λ y k. f (y0 + y) (x0 + (v + k))) (y0 * w + x0 + v) w n rh) e
      ∙ rows_beside (λ y k. f (y0 + y) (x0 + k)) (y0 * w + x0) w v n rh d (omega arith)
