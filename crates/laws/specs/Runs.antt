-- A loop that writes a run of a list: n values of f, from place `at` on.
use Rattle.std.specs.Prelude.{◌≡◌, drop}
use Rattle.std.proofs.Math.Path.{refl, sym, ap, subst}
use Rattle.std.proofs.Common.{◌∙◌, not-suc-le-zero, eq-or-lt_of_le, le_of_suc-le-suc, zero-add, suc-add, add-suc, add-one, length-take, length-drop, get_or-set_same}
use mathlib.Core.List.{List, [], ◌∷◌, ◌++◌}
use Rattle.std.proofs.Math.Logic.{⊎_elim}
use Prim.Native.Nat.{ℕ, zero, suc, ◌+◌, ◌-◌, ◌<◌, ◌≤◌}
use native.Mathlib.Omega.{arith}
use Rattle.std.proofs.Math.Nat.{add-zero, add_assoc}
use Rattle.std.proofs.Math.ListN.{length, get_or, set, take, length-set}
use Rattle.std.proofs.Math.Seq.{get_or-set_other, set_comm, length-take-le}
use Rattle.std.proofs.lemmas.List.{set-append_left}
use borrow.Rule.Slice.PartMut.{mid_of, post_of, put_mid, put_same}

module _ {A : Type 0} where
  unfoldable pub stamp : (ℕ → A) → ℕ → ℕ → List A → List A
  stamp f at zero d = d
  stamp f at (suc n) d = set (stamp f at n d) (at + n) (f n)

  pub stamp_none : (f : ℕ → A) (at : ℕ) (d : List A) → d ≡ stamp f at 0 d
  unfolding stamp
  stamp_none f at d = refl

  -- one more store, as the code's `x + 1` has it
  pub stamp_more : (f : ℕ → A) (at n : ℕ) (d l : List A) (v : A) (i : ℕ) → l ≡ stamp f at n d → i ≡ at + n → v ≡ f n → set l i v ≡ stamp f at (n + 1) d
  unfolding stamp
  stamp_more f at n d l v i p q r = rw (add-one, p, q, r)

  pub stamp_length : (f : ℕ → A) (at n : ℕ) (d : List A) → length (stamp f at n d) ≡ length d
  unfolding stamp
  stamp_length f at zero d = refl
  stamp_length f at (suc n) d = length-set (stamp f at n d) (at + n) (f n) ∙ stamp_length f at n d

  -- outside the run nothing changed
  pub stamp_outside : (f : ℕ → A) (at n : ℕ) (d : List A) (i : ℕ) (z : A) → ((k : ℕ) → k < n → i ≡ at + k → ⊥) → get_or (stamp f at n d) i z ≡ get_or d i z
  unfolding stamp
  stamp_outside f at zero d i z h = refl
  stamp_outside f at (suc n) d i z h =
      get_or-set_other (stamp f at n d) (at + n) i (f n) z (h n (omega arith)) ∙ stamp_outside f at n d i z (λ k l. h k (omega arith))

  -- inside it stands f
  pub stamp_inside : (f : ℕ → A) (at n : ℕ) (d : List A) (k : ℕ) (z : A) → k < n → at + n ≤ length d → get_or (stamp f at n d) (at + k) z ≡ f k
  unfolding stamp
  stamp_inside f at zero d k z l h = absurd (not-suc-le-zero l)
  stamp_inside f at (suc n) d k z l h = ⊎_elim
      (λ (e : k ≡ n). subst (λ (j : ℕ). get_or (set (stamp f at n d) (at + n) (f n)) (at + j) z ≡ f j) (sym e) (get_or-set_same (stamp f at n d) (at + n) (f n) z (omega (arith, stamp_length f at n d))))
      (λ (m : k < n). get_or-set_other (stamp f at n d) (at + n) (at + k) (f n) z (λ e. omega arith) ∙ stamp_inside f at n d k z m (omega arith))
      (eq-or-lt_of_le (le_of_suc-le-suc l))

  -- a store apart from a run may come before it or after it
  pub stamp_set : (f : ℕ → A) (at n i : ℕ) (v : A) (d : List A) → ((k : ℕ) → k < n → i ≡ at + k → ⊥) → stamp f at n (set d i v) ≡ set (stamp f at n d) i v
  unfolding stamp
  stamp_set f at zero i v d h = refl
  stamp_set f at (suc n) i v d h =
      ap (λ (t : List A). set t (at + n) (f n)) (stamp_set f at n i v d (λ k p. h k (omega arith))) ∙ set_comm (stamp f at n d) i (at + n) v (f n) (h n (omega arith))

  -- the same values, the same run
  pub stamp_same : (f g : ℕ → A) (at n : ℕ) (d : List A) → ((k : ℕ) → k < n → f k ≡ g k) → stamp f at n d ≡ stamp g at n d
  unfolding stamp
  stamp_same f g at zero d h = refl
  stamp_same f g at (suc n) d h = rw (stamp_same f g at n d (λ k l. h k (omega arith)), h n (omega arith))

  -- what lies before a run, or after it, is as it was
  pub stamp_before : (f : ℕ → A) (at n : ℕ) (d l : List A) (i : ℕ) (z : A) → l ≡ stamp f at n d → i < at → get_or l i z ≡ get_or d i z
  stamp_before f at n d l i z e h = ap (λ (s : List A). get_or s i z) e ∙ stamp_outside f at n d i z (λ k p q. omega arith)

  pub stamp_after : (f : ℕ → A) (at n : ℕ) (d l : List A) (i : ℕ) (z : A) → l ≡ stamp f at n d → at + n ≤ i → get_or l i z ≡ get_or d i z
  stamp_after f at n d l i z e h = ap (λ (s : List A). get_or s i z) e ∙ stamp_outside f at n d i z (λ k p q. omega arith)

  -- an element of a run
  pub stamp_at : (f : ℕ → A) (at n : ℕ) (d l : List A) (k i : ℕ) (z : A) → l ≡ stamp f at n d → at + n ≤ length d → k < n → i ≡ at + k → get_or l i z ≡ f k
  stamp_at f at n d l k i z e h p q = ap (λ (t : List A). get_or t i z) e ∙ ap (λ (j : ℕ). get_or (stamp f at n d) j z) q ∙ stamp_inside f at n d k z p h

  -- two runs, end to end, are one
  pub stamp_join : (f : ℕ → A) (at m n : ℕ) (d : List A) → stamp (λ k. f (m + k)) (at + m) n (stamp f at m d) ≡ stamp f at (m + n) d
  unfolding stamp
  stamp_join f at m zero d = rw add-zero
  stamp_join f at m (suc n) d = rw (add-suc, stamp_join f at m n d, add_assoc at m n)

  -- the same, as calls leave it: each call gives its own values, which are f's
  pub stamp_next : (f g : ℕ → A) (at m n i : ℕ) (d l t : List A) → l ≡ stamp f at m d → t ≡ stamp g i n l → i ≡ at + m → ((k : ℕ) → k < n → g k ≡ f (m + k)) → t ≡ stamp f at (m + n) d
  stamp_next f g at m n i d l t p q r h =
      q ∙ ap (λ (j : ℕ). stamp g j n l) r ∙ stamp_same g (λ k. f (m + k)) (at + m) n l h ∙ ap (stamp (λ k. f (m + k)) (at + m) n) p ∙ stamp_join f at m n d

  -- a run written in a lent part `&mut d[a..e]` is a run written in the whole
  set_right : (xs ys : List A) (i : ℕ) (v : A) → set (xs ++ ys) (length xs + i) v ≡ xs ++ set ys i v
  set_right [] ys i v = rw zero-add
  set_right (x ∷ xs) ys i v = rw (suc-add, set_right xs ys i v)

  put_run : (f : ℕ → A) (a n k : ℕ) (d : List A) → a ≤ length d → k ≤ length (mid_of a n d) → put_mid a n d (stamp f 0 k (mid_of a n d)) ≡ stamp f a k d
  unfolding stamp
  put_run f a n zero d p q = put_same a n d
  put_run f a n (suc k) d p q =
      let l = stamp f 0 k (mid_of a n d) in
      let e : 0 + k ≡ k = omega arith in
      let r : length (take a d) + k ≡ a + k = omega (arith, length-take-le a d p) in
      ap (λ (j : ℕ). put_mid a n d (set l j (f k))) e
      ∙ ap (λ (z : List A). take a d ++ z) (sym (set-append_left l (post_of a n d) k (f k) (omega (arith, stamp_length f 0 k (mid_of a n d)))))
      ∙ sym (set_right (take a d) (l ++ post_of a n d) k (f k))
      ∙ ap (λ (j : ℕ). set (put_mid a n d l) j (f k)) r
      ∙ ap (λ (z : List A). set z (a + k) (f k)) (put_run f a n k d p (omega arith))

  pub part_back : (f : ℕ → A) (a e n : ℕ) (d last : List A) → e ≡ a + n → e ≤ length d → last ≡ stamp f 0 (length (mid_of a (e - a) d)) (mid_of a (e - a) d) → put_mid a (e - a) d last ≡ stamp f a n d
  part_back f a e n d last p q r =
      ap (put_mid a (e - a) d) r ∙ put_run f a (e - a) (length (mid_of a (e - a) d)) d (omega arith) (omega arith)
      ∙ ap (λ (k : ℕ). stamp f a k d) (length-take (e - a) (drop a d) ∙ omega (arith, length-drop a d))
