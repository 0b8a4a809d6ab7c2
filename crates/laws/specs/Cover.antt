-- A plane painted rectangle by rectangle: rectangle k is X k, Y k, W k, H k, and the cell (y, x) lies in number `num y x` and no other.
use Rattle.std.specs.Prelude.{◌≡◌, refl, List, ℕ, ◌+◌, ◌*◌, ◌<◌, ◌≤◌, length, get_or}
use Rattle.std.proofs.Common.{◌∙◌, subst, ⊎_elim, arith, eq-or-lt_of_le}
use Rattle.laws.specs.Index.{lt_or_le}
use Rattle.laws.specs.Paint.{paint, Within, Inside, paint_length, paint_inside, paint_outside}
use Rattle.laws.specs.Lists.{plane, is_plane}

pub record Cover (n w h : ℕ) (X Y W H : ℕ → ℕ) (num : ℕ → ℕ → ℕ) : Type 0 where
  pub within : (k : ℕ) → k < n → Within (X k) (Y k) (W k) (H k) w h
  pub has : (y x : ℕ) → y < h → x < w → Inside (X (num y x)) (Y (num y x)) (W (num y x)) (H (num y x)) y x
  pub only : (k y x : ℕ) → k < n → Inside (X k) (Y k) (W k) (H k) y x → num y x ≡ k
  pub below : (y x : ℕ) → y < h → x < w → num y x < n

-- the cells of rectangles j .. k − 1 hold f, the others are as in d
pub record Painted {A : Type 0} (num : ℕ → ℕ → ℕ) (w h : ℕ) (f : ℕ → ℕ → A) (z : A) (j k : ℕ) (d s : List A) : Type 0 where
  pub long : length s ≡ length d
  pub done : (y x : ℕ) → y < h → x < w → j ≤ num y x → num y x < k → get_or s (y * w + x) z ≡ f y x
  pub before : (y x : ℕ) → y < h → x < w → num y x < j → get_or s (y * w + x) z ≡ get_or d (y * w + x) z
  pub after : (y x : ℕ) → y < h → x < w → k ≤ num y x → get_or s (y * w + x) z ≡ get_or d (y * w + x) z

module _ {A : Type 0} (num : ℕ → ℕ → ℕ) (w h : ℕ) (f : ℕ → ℕ → A) (z : A) (j : ℕ) (d : List A) where
  pub painted_none : Painted num w h f z j j d d
  painted_none = record { long = refl; done = λ y x p q r s. absurd (omega arith); before = λ y x p q r. refl; after = λ y x p q r. refl }

  -- one more rectangle
  pub painted_more : {n : ℕ} {X Y W H : ℕ → ℕ} → Cover n w h X Y W H num → (k : ℕ) (s t : List A) → k < n → j ≤ k → h * w ≤ length d
      → Painted num w h f z j k d s → t ≡ paint (X k) (Y k) (W k) (H k) w f s → Painted num w h f z j (k + 1) d t
  painted_more {X = X} {Y = Y} {W = W} {H = H} cov k s t l jk long u e = record {
    long = paint_length (X k) (Y k) (W k) (H k) w h f s t e (cov.within k l) ∙ u.long;
    done = λ y x p q r o. ⊎_elim
        (λ (i : num y x ≡ k). paint_inside (X k) (Y k) (W k) (H k) w h f s t e (cov.within k l) y x z (omega (arith, u.long)) (subst (λ (m : ℕ). Inside (X m) (Y m) (W m) (H m) y x) i (cov.has y x p q)))
        (λ (i : num y x < k). kept y x q (λ m. omega arith) ∙ u.done y x p q r i)
        (eq-or-lt_of_le {n = num y x} {m = k} (omega arith));
    before = λ y x p q r. kept y x q (λ m. omega arith) ∙ u.before y x p q r;
    after = λ y x p q r. kept y x q (λ m. omega arith) ∙ u.after y x p q (omega arith);
  }
    where
      kept : (y x : ℕ) → x < w → (num y x ≡ k → ⊥) → get_or t (y * w + x) z ≡ get_or s (y * w + x) z
      kept y x q a = paint_outside (X k) (Y k) (W k) (H k) w h f s t e (cov.within k l) y x z q (λ i. a (cov.only k y x l i))

  -- all of them
  pub painted_all : {n : ℕ} {X Y W H : ℕ → ℕ} → Cover n w h X Y W H num → (k : ℕ) (s : List A) → j ≡ 0 → n ≤ k → length d ≡ h * w → Painted num w h f z j k d s → s ≡ plane f w h
  painted_all cov k s e l long u = is_plane f w h s z (u.long ∙ long) (λ y x p q. u.done y x p q (omega arith) (omega (arith, cov.below y x p q)))

module _ {A : Type 0} (num : ℕ → ℕ → ℕ) (w h : ℕ) (z : A) (j k : ℕ) (d s : List A) where
  -- the same values there, the same picture
  pub painted_same : (f g : ℕ → ℕ → A) → ((y x : ℕ) → y < h → x < w → j ≤ num y x → num y x < k → f y x ≡ g y x) → Painted num w h f z j k d s → Painted num w h g z j k d s
  painted_same f g e u = record { long = u.long; done = λ y x p q r o. u.done y x p q r o ∙ e y x p q r o; before = u.before; after = u.after }

  -- more rectangles, painted after these
  pub painted_join : (f : ℕ → ℕ → A) (l : ℕ) (t : List A) → j ≤ k → k ≤ l → Painted num w h f z j k d s → Painted num w h f z k l s t → Painted num w h f z j l d t
  painted_join f l t jk kl u v = record {
    long = v.long ∙ u.long;
    done = λ y x p q r o. ⊎_elim (λ (i : num y x < k). v.before y x p q i ∙ u.done y x p q r i) (λ (i : k ≤ num y x). v.done y x p q i o) (lt_or_le (num y x) k);
    before = λ y x p q r. v.before y x p q (omega arith) ∙ u.before y x p q r;
    after = λ y x p q r. v.after y x p q r ∙ u.after y x p q (omega arith);
  }
