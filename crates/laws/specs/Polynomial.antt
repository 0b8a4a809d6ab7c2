-- Ring identities over ℤ by one computed test: `identity ρ e f tt`. A polynomial is a list of terms, a term a coefficient and the sorted
-- list of its variables; `X i` is the i-th number of the list ρ.
use Rattle.std.specs.Prelude.{◌≡◌, refl, List, [], ◌∷◌, Bool, true, false, cond, ◌&&◌, ℕ, zero, suc, T, eqb, leb, get_or, ℤ, pos, negsuc, ◌+ℤ◌, ◌-ℤ◌, ◌*ℤ◌}
use Rattle.std.proofs.Common.{sym, ◌∙◌, ap, eqb→eq}
use Rattle.std.proofs.Math.IntN.{zero-*ℤ, +ℤ_idl, +ℤ_idr, +ℤ_assoc, *ℤ-zero}
use Rattle.laws.specs.Integers.{diff1, diff2, diff3, diff4, differences-out, difference-arith, *ℤ_dist_l, *ℤ_dist_r, *ℤ_assoc}
use Rattle.laws.specs.Tests.{and_l, and_r}

infixl 6 ◌⊹◌ ◌∸ₚ◌
infixl 7 ◌⋆◌
pub data Poly : Type 0 where
  X : ℕ → Poly
  C : ℤ → Poly
  ◌⊹◌ : Poly → Poly → Poly
  ◌∸ₚ◌ : Poly → Poly → Poly
  ◌⋆◌ : Poly → Poly → Poly

pub data Term : Type 0 where
  term : ℤ → List ℕ → Term

-- ---- what these mean
module _ (ρ : List ℤ) where
  abbrev pub poly_value : Poly → ℤ
  poly_value (X i) = get_or ρ i (pos 0)
  poly_value (C z) = z
  poly_value (a ⊹ b) = poly_value a +ℤ poly_value b
  poly_value (a ∸ₚ b) = poly_value a -ℤ poly_value b
  poly_value (a ⋆ b) = poly_value a *ℤ poly_value b

  abbrev mono : List ℕ → ℤ
  mono [] = pos 1
  mono (i ∷ m) = get_or ρ i (pos 0) *ℤ mono m

  abbrev poly : List Term → ℤ
  poly [] = pos 0
  poly (term k m ∷ t) = k *ℤ mono m +ℤ poly t

-- ---- the normal form
abbrev eq_l : List ℕ → List ℕ → Bool
eq_l [] [] = true
eq_l [] (y ∷ ys) = false
eq_l (x ∷ xs) [] = false
eq_l (x ∷ xs) (y ∷ ys) = eqb x y && eq_l xs ys

abbrev ins : ℤ → List ℕ → List Term → List Term
ins k m [] = term k m ∷ []
ins k m (term j n ∷ t) = cond (eq_l m n) (term (k +ℤ j) n ∷ t) (term j n ∷ ins k m t)

abbrev add_p : List Term → List Term → List Term
add_p [] q = q
add_p (term k m ∷ t) q = ins k m (add_p t q)

abbrev ins_v : ℕ → List ℕ → List ℕ
ins_v i [] = i ∷ []
ins_v i (j ∷ m) = cond (leb i j) (i ∷ j ∷ m) (j ∷ ins_v i m)

abbrev mul_m : List ℕ → List ℕ → List ℕ
mul_m [] n = n
mul_m (i ∷ m) n = ins_v i (mul_m m n)

abbrev mul_t : ℤ → List ℕ → List Term → List Term
mul_t k m [] = []
mul_t k m (term j n ∷ t) = ins (k *ℤ j) (mul_m m n) (mul_t k m t)

abbrev mul_p : List Term → List Term → List Term
mul_p [] q = []
mul_p (term k m ∷ t) q = add_p (mul_t k m q) (mul_p t q)

abbrev norm : Poly → List Term
norm (X i) = term (pos 1) (i ∷ []) ∷ []
norm (C z) = term z [] ∷ []
norm (a ⊹ b) = add_p (norm a) (norm b)
norm (a ∸ₚ b) = add_p (norm a) (mul_t (negsuc 0) [] (norm b))
norm (a ⋆ b) = mul_p (norm a) (norm b)

abbrev is_zero : ℤ → Bool
is_zero (pos zero) = true
is_zero (pos (suc n)) = false
is_zero (negsuc n) = false

abbrev zeros : List Term → Bool
zeros [] = true
zeros (term k m ∷ t) = is_zero k && zeros t

abbrev pub equal : Poly → Poly → Bool
equal e f = zeros (norm (e ∸ₚ f))

-- ---- the laws that the proof takes, each by the recipe
l_merge : (k j m p : ℤ) → (k +ℤ j) *ℤ m +ℤ p ≡ k *ℤ m +ℤ (j *ℤ m +ℤ p)
l_merge = diff4 _ (λ a b c d e f g h. simp differences-out (omega difference-arith))

l_swap : (x y p : ℤ) → x +ℤ (y +ℤ p) ≡ y +ℤ (x +ℤ p)
l_swap = diff3 _ (λ a b c d e f. simp differences-out (omega difference-arith))

l_mswap : (x y p : ℤ) → x *ℤ (y *ℤ p) ≡ y *ℤ (x *ℤ p)
l_mswap = diff3 _ (λ a b c d e f. simp differences-out (omega difference-arith))

l_one : (x : ℤ) → x ≡ pos 1 *ℤ x
l_one = diff1 _ (λ a b. simp differences-out (omega difference-arith))

l_one_r : (x : ℤ) → x *ℤ pos 1 ≡ x
l_one_r = diff1 _ (λ a b. simp differences-out (omega difference-arith))

l_four : (k m j n : ℤ) → (k *ℤ j) *ℤ (m *ℤ n) ≡ (k *ℤ m) *ℤ (j *ℤ n)
l_four = diff4 _ (λ a b c d e f g h. simp differences-out (omega difference-arith))

l_neg : (x y : ℤ) → x +ℤ (negsuc 0 *ℤ pos 1) *ℤ y ≡ x -ℤ y
l_neg = diff2 _ (λ a b c d. simp differences-out (omega difference-arith))

l_zero : (x y : ℤ) → x -ℤ y ≡ pos 0 → x ≡ y
l_zero = diff2 _ (λ a b c d h. omega (difference-arith, simp differences-out at h))

-- ---- and the proof
eqL_is : (m n : List ℕ) → T (eq_l m n) → m ≡ n
eqL_is [] [] t = refl
eqL_is [] (y ∷ ys) t = absurd t
eqL_is (x ∷ xs) [] t = absurd t
eqL_is (x ∷ xs) (y ∷ ys) t =
    ap (λ (z : ℕ). z ∷ xs) (eqb→eq x y (and_l (eqb x y) (eq_l xs ys) t)) ∙ ap (λ (zs : List ℕ). y ∷ zs) (eqL_is xs ys (and_r (eqb x y) (eq_l xs ys) t))

module _ (ρ : List ℤ) where
  ins_pick : (b : Bool) (k j : ℤ) (m n : List ℕ) (t u : List Term) → (T b → m ≡ n) → poly ρ u ≡ k *ℤ mono ρ m +ℤ poly ρ t → poly ρ (cond b (term (k +ℤ j) n ∷ t) (term j n ∷ u)) ≡ k *ℤ mono ρ m +ℤ (j *ℤ mono ρ n +ℤ poly ρ t)
  ins_pick true k j m n t u e h = l_merge k j (mono ρ n) (poly ρ t) ∙ ap (λ (l : List ℕ). k *ℤ mono ρ l +ℤ (j *ℤ mono ρ n +ℤ poly ρ t)) (sym (e tt))
  ins_pick false k j m n t u e h = ap (λ (z : ℤ). j *ℤ mono ρ n +ℤ z) h ∙ l_swap (j *ℤ mono ρ n) (k *ℤ mono ρ m) (poly ρ t)

  ins_is : (k : ℤ) (m : List ℕ) (p : List Term) → poly ρ (ins k m p) ≡ k *ℤ mono ρ m +ℤ poly ρ p
  ins_is k m [] = refl
  ins_is k m (term j n ∷ t) = ins_pick (eq_l m n) k j m n t (ins k m t) (eqL_is m n) (ins_is k m t)

  add_is : (p q : List Term) → poly ρ (add_p p q) ≡ poly ρ p +ℤ poly ρ q
  add_is [] q = sym (+ℤ_idl (poly ρ q))
  add_is (term k m ∷ t) q = ins_is k m (add_p t q) ∙ ap (λ (z : ℤ). k *ℤ mono ρ m +ℤ z) (add_is t q) ∙ sym (+ℤ_assoc (k *ℤ mono ρ m) (poly ρ t) (poly ρ q))

  insV_pick : (b : Bool) (i j : ℕ) (m n : List ℕ) → mono ρ n ≡ get_or ρ i (pos 0) *ℤ mono ρ m → mono ρ (cond b (i ∷ j ∷ m) (j ∷ n)) ≡ get_or ρ i (pos 0) *ℤ (get_or ρ j (pos 0) *ℤ mono ρ m)
  insV_pick true i j m n h = refl
  insV_pick false i j m n h = ap (λ (z : ℤ). get_or ρ j (pos 0) *ℤ z) h ∙ l_mswap (get_or ρ j (pos 0)) (get_or ρ i (pos 0)) (mono ρ m)

  insV_is : (i : ℕ) (m : List ℕ) → mono ρ (ins_v i m) ≡ get_or ρ i (pos 0) *ℤ mono ρ m
  insV_is i [] = refl
  insV_is i (j ∷ m) = insV_pick (leb i j) i j m (ins_v i m) (insV_is i m)

  mulM_is : (m n : List ℕ) → mono ρ (mul_m m n) ≡ mono ρ m *ℤ mono ρ n
  mulM_is [] n = l_one (mono ρ n)
  mulM_is (i ∷ m) n = insV_is i (mul_m m n) ∙ ap (λ (z : ℤ). get_or ρ i (pos 0) *ℤ z) (mulM_is m n) ∙ sym (*ℤ_assoc (get_or ρ i (pos 0)) (mono ρ m) (mono ρ n))

  mulT_is : (k : ℤ) (m : List ℕ) (p : List Term) → poly ρ (mul_t k m p) ≡ (k *ℤ mono ρ m) *ℤ poly ρ p
  mulT_is k m [] = sym (*ℤ-zero (k *ℤ mono ρ m))
  mulT_is k m (term j n ∷ t) =
      ins_is (k *ℤ j) (mul_m m n) (mul_t k m t)
      ∙ ap (λ (z : ℤ). (k *ℤ j) *ℤ z +ℤ poly ρ (mul_t k m t)) (mulM_is m n)
      ∙ ap (λ (z : ℤ). z +ℤ poly ρ (mul_t k m t)) (l_four k (mono ρ m) j (mono ρ n))
      ∙ ap (λ (z : ℤ). (k *ℤ mono ρ m) *ℤ (j *ℤ mono ρ n) +ℤ z) (mulT_is k m t)
      ∙ sym (*ℤ_dist_l (k *ℤ mono ρ m) (j *ℤ mono ρ n) (poly ρ t))

  mulP_is : (p q : List Term) → poly ρ (mul_p p q) ≡ poly ρ p *ℤ poly ρ q
  mulP_is [] q = sym (zero-*ℤ (poly ρ q))
  mulP_is (term k m ∷ t) q =
      add_is (mul_t k m q) (mul_p t q) ∙ ap (λ (z : ℤ). z +ℤ poly ρ (mul_p t q)) (mulT_is k m q)
      ∙ ap (λ (z : ℤ). (k *ℤ mono ρ m) *ℤ poly ρ q +ℤ z) (mulP_is t q) ∙ sym (*ℤ_dist_r (k *ℤ mono ρ m) (poly ρ t) (poly ρ q))

  norm_is : (e : Poly) → poly ρ (norm e) ≡ poly_value ρ e
  norm_is (X i) = +ℤ_idr (pos 1 *ℤ (get_or ρ i (pos 0) *ℤ pos 1)) ∙ sym (l_one (get_or ρ i (pos 0) *ℤ pos 1)) ∙ l_one_r (get_or ρ i (pos 0))
  norm_is (C z) = +ℤ_idr (z *ℤ pos 1) ∙ l_one_r z
  norm_is (a ⊹ b) = add_is (norm a) (norm b) ∙ ap (λ (z : ℤ). z +ℤ poly ρ (norm b)) (norm_is a) ∙ ap (λ (z : ℤ). poly_value ρ a +ℤ z) (norm_is b)
  norm_is (a ∸ₚ b) =
      add_is (norm a) (mul_t (negsuc 0) [] (norm b)) ∙ ap (λ (z : ℤ). poly ρ (norm a) +ℤ z) (mulT_is (negsuc 0) [] (norm b))
      ∙ l_neg (poly ρ (norm a)) (poly ρ (norm b)) ∙ ap (λ (z : ℤ). z -ℤ poly ρ (norm b)) (norm_is a) ∙ ap (λ (z : ℤ). poly_value ρ a -ℤ z) (norm_is b)
  norm_is (a ⋆ b) = mulP_is (norm a) (norm b) ∙ ap (λ (z : ℤ). z *ℤ poly ρ (norm b)) (norm_is a) ∙ ap (λ (z : ℤ). poly_value ρ a *ℤ z) (norm_is b)

  is_zero_is : (k : ℤ) → T (is_zero k) → k ≡ pos 0
  is_zero_is (pos zero) t = refl
  is_zero_is (pos (suc n)) t = absurd t
  is_zero_is (negsuc n) t = absurd t

  zeros_is : (p : List Term) → T (zeros p) → poly ρ p ≡ pos 0
  zeros_is [] t = refl
  zeros_is (term k m ∷ t) u =
      ap (λ (z : ℤ). z *ℤ mono ρ m +ℤ poly ρ t) (is_zero_is k (and_l (is_zero k) (zeros t) u))
      ∙ ap (λ (z : ℤ). z +ℤ poly ρ t) (zero-*ℤ (mono ρ m)) ∙ +ℤ_idl (poly ρ t) ∙ zeros_is t (and_r (is_zero k) (zeros t) u)

  pub identity : (e f : Poly) → T (equal e f) → poly_value ρ e ≡ poly_value ρ f
  identity e f t = l_zero (poly_value ρ e) (poly_value ρ f) (sym (norm_is (e ∸ₚ f)) ∙ zeros_is (norm (e ∸ₚ f)) t)
