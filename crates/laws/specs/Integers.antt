-- ℤ as differences of naturals, so that `omega` serves for ℤ.
use Rattle.std.specs.Prelude.{◌≡◌, refl, ℕ, zero, suc, ◌+◌, ◌*◌, ◌-◌, ◌<◌, ◌≤◌, Bool, true, false, not, cond, T, ltb, ℤ, pos, negsuc, neg_ℤ, ◌+ℤ◌, ◌-ℤ◌, ◌*ℤ◌, ◌≤ℤ◌, ◌<ℤ◌}
use Rattle.std.proofs.Common.{sym, ◌∙◌, ap, subst, arith, ltb→lt, nltb→le, leb→le, lt→ltb, le→leb}
use Rattle.std.proofs.Math.IntN.{suc_ℤ, pred_ℤ, ℤ_ind, +ℤ_assoc, +ℤ_comm, +ℤ_idl, +ℤ_idr, +ℤ_one, -ℤ_one, suc_ℤ-+ℤ, pred_ℤ-+ℤ, suc_ℤ-*ℤ, pred_ℤ-*ℤ, zero-*ℤ, *ℤ_comm, neg_ℤ-+ℤ, neg_ℤ-neg_ℤ, +ℤ-neg_ℤ_cancel}

-- ---- the ring laws that lib.IntN lacks
pub +ℤ_left_comm : (a b c : ℤ) → a +ℤ (b +ℤ c) ≡ b +ℤ (a +ℤ c)
+ℤ_left_comm a b c = sym (+ℤ_assoc a b c) ∙ ap (λ x. x +ℤ c) (+ℤ_comm a b) ∙ +ℤ_assoc b a c

dist_up : (m b c : ℤ) → (m +ℤ b) *ℤ c ≡ m *ℤ c +ℤ b *ℤ c → (suc_ℤ m +ℤ b) *ℤ c ≡ suc_ℤ m *ℤ c +ℤ b *ℤ c
dist_up m b c ih =
    ap (λ x. x *ℤ c) (suc_ℤ-+ℤ m b) ∙ suc_ℤ-*ℤ (m +ℤ b) c ∙ ap (λ x. x +ℤ c) ih ∙ simp (suc_ℤ-*ℤ, +ℤ_assoc, +ℤ_comm, +ℤ_left_comm)

dist_down : (m b c : ℤ) → (m +ℤ b) *ℤ c ≡ m *ℤ c +ℤ b *ℤ c → (pred_ℤ m +ℤ b) *ℤ c ≡ pred_ℤ m *ℤ c +ℤ b *ℤ c
dist_down m b c ih =
    ap (λ x. x *ℤ c) (pred_ℤ-+ℤ m b) ∙ pred_ℤ-*ℤ (m +ℤ b) c ∙ ap (λ x. x -ℤ c) ih ∙ simp (pred_ℤ-*ℤ, +ℤ_assoc, +ℤ_comm, +ℤ_left_comm)

pub *ℤ_dist_r : (a b c : ℤ) → (a +ℤ b) *ℤ c ≡ a *ℤ c +ℤ b *ℤ c
*ℤ_dist_r a b c = ℤ_ind (λ (m : ℤ). (m +ℤ b) *ℤ c ≡ m *ℤ c +ℤ b *ℤ c)
    (ap (λ x. x *ℤ c) (+ℤ_idl b) ∙ sym (ap (λ x. x +ℤ b *ℤ c) (zero-*ℤ c) ∙ +ℤ_idl (b *ℤ c)))
    (λ n ih. subst (λ (m : ℤ). (m +ℤ b) *ℤ c ≡ m *ℤ c +ℤ b *ℤ c) (sym (+ℤ_one (pos n))) (dist_up (pos n) b c ih))
    (λ n ih. subst (λ (m : ℤ). (m +ℤ b) *ℤ c ≡ m *ℤ c +ℤ b *ℤ c) (sym (-ℤ_one (neg_ℤ (pos n)))) (dist_down (neg_ℤ (pos n)) b c ih))
    a

pub *ℤ_dist_l : (a b c : ℤ) → a *ℤ (b +ℤ c) ≡ a *ℤ b +ℤ a *ℤ c
*ℤ_dist_l a b c = *ℤ_comm a (b +ℤ c) ∙ *ℤ_dist_r b c a ∙ ap (λ x. x +ℤ c *ℤ a) (*ℤ_comm b a) ∙ ap (λ x. a *ℤ b +ℤ x) (*ℤ_comm c a)

pub neg_*ℤ : (a b : ℤ) → neg_ℤ a *ℤ b ≡ neg_ℤ (a *ℤ b)
neg_*ℤ (pos zero) b = zero-*ℤ b ∙ sym (ap neg_ℤ (zero-*ℤ b))
neg_*ℤ (pos (suc a)) (pos n) = refl
neg_*ℤ (pos (suc a)) (negsuc n) = sym (neg_ℤ-neg_ℤ (pos (suc a * suc n)))
neg_*ℤ (negsuc a) (pos n) = sym (neg_ℤ-neg_ℤ (pos (suc a * n)))
neg_*ℤ (negsuc a) (negsuc n) = refl

pub *ℤ_neg : (a b : ℤ) → a *ℤ neg_ℤ b ≡ neg_ℤ (a *ℤ b)
*ℤ_neg a b = *ℤ_comm a (neg_ℤ b) ∙ neg_*ℤ b a ∙ ap neg_ℤ (*ℤ_comm b a)

-- ---- a − b. Shut: it does not compute, so `simp` can move it outwards
infixl 6 ◌⊖◌
pub ◌⊖◌ : ℕ → ℕ → ℤ
a ⊖ b = pos a +ℤ neg_ℤ (pos b)

pub ⊖_add : (a b c d : ℕ) → (a ⊖ b) +ℤ (c ⊖ d) ≡ (a + c) ⊖ (b + d)
unfolding ◌⊖◌
⊖_add a b c d =
    +ℤ_assoc (pos a) (neg_ℤ (pos b)) (pos c +ℤ neg_ℤ (pos d))
    ∙ ap (λ x. pos a +ℤ x) (+ℤ_left_comm (neg_ℤ (pos b)) (pos c) (neg_ℤ (pos d)))
    ∙ sym (+ℤ_assoc (pos a) (pos c) (neg_ℤ (pos b) +ℤ neg_ℤ (pos d)))
    ∙ ap (λ x. pos (a + c) +ℤ x) (sym (neg_ℤ-+ℤ (pos b) (pos d)))

pub ⊖_neg : (a b : ℕ) → neg_ℤ (a ⊖ b) ≡ b ⊖ a
unfolding ◌⊖◌
⊖_neg a b = neg_ℤ-+ℤ (pos a) (neg_ℤ (pos b)) ∙ ap (λ x. neg_ℤ (pos a) +ℤ x) (neg_ℤ-neg_ℤ (pos b)) ∙ +ℤ_comm (neg_ℤ (pos a)) (pos b)

pub ⊖_pos : (a : ℕ) → pos a ≡ a ⊖ 0
unfolding ◌⊖◌
⊖_pos a = sym (+ℤ_idr (pos a))

pub ⊖_negsuc : (a : ℕ) → negsuc a ≡ 0 ⊖ suc a
unfolding ◌⊖◌
⊖_negsuc a = sym (+ℤ_idl (negsuc a))

pub ⊖_mul : (a b c d : ℕ) → (a ⊖ b) *ℤ (c ⊖ d) ≡ (a * c + b * d) ⊖ (a * d + b * c)
unfolding ◌⊖◌
⊖_mul a b c d =
    *ℤ_dist_r (pos a) (neg_ℤ (pos b)) (pos c +ℤ neg_ℤ (pos d))
    ∙ ap (λ x. x +ℤ neg_ℤ (pos b) *ℤ (pos c +ℤ neg_ℤ (pos d))) (*ℤ_dist_l (pos a) (pos c) (neg_ℤ (pos d)) ∙ ap (λ x. pos (a * c) +ℤ x) (*ℤ_neg (pos a) (pos d)))
    ∙ ap (λ x. (pos (a * c) +ℤ neg_ℤ (pos (a * d))) +ℤ x) (*ℤ_dist_l (neg_ℤ (pos b)) (pos c) (neg_ℤ (pos d)) ∙ ap (λ x. x +ℤ neg_ℤ (pos b) *ℤ neg_ℤ (pos d)) (neg_*ℤ (pos b) (pos c)) ∙ ap (λ x. neg_ℤ (pos (b * c)) +ℤ x) (neg_*ℤ (pos b) (neg_ℤ (pos d)) ∙ ap neg_ℤ (*ℤ_neg (pos b) (pos d)) ∙ neg_ℤ-neg_ℤ (pos (b * d))) ∙ +ℤ_comm (neg_ℤ (pos (b * c))) (pos (b * d)))
    ∙ ⊖_add (a * c) (a * d) (b * d) (b * c)

pub ⊖_eq : (a b c d : ℕ) → a + d ≡ c + b → a ⊖ b ≡ c ⊖ d
unfolding ◌⊖◌
⊖_eq a b c d e =
    ap (λ x. x +ℤ neg_ℤ (pos b)) (sym (+ℤ-neg_ℤ_cancel (pos a) (pos d)) ∙ ap (λ (n : ℕ). pos n -ℤ pos d) e)
    ∙ +ℤ_assoc (pos c +ℤ pos b) (neg_ℤ (pos d)) (neg_ℤ (pos b))
    ∙ ap (λ x. pos c +ℤ pos b +ℤ x) (+ℤ_comm (neg_ℤ (pos d)) (neg_ℤ (pos b)))
    ∙ sym (+ℤ_assoc (pos c +ℤ pos b) (neg_ℤ (pos b)) (neg_ℤ (pos d)))
    ∙ ap (λ x. x +ℤ neg_ℤ (pos d)) (+ℤ-neg_ℤ_cancel (pos c) (pos b))

-- ---- the two parts of a number
abbrev pub plus_part : ℤ → ℕ
plus_part (pos n) = n
plus_part (negsuc n) = 0

abbrev pub minus_part : ℤ → ℕ
minus_part (pos n) = 0
minus_part (negsuc n) = suc n

pub parts : (z : ℤ) → z ≡ plus_part z ⊖ minus_part z
parts (pos n) = ⊖_pos n
parts (negsuc n) = ⊖_negsuc n

pub le_in : {x y : ℤ} → x ≤ℤ y → plus_part x + minus_part y ≤ plus_part y + minus_part x
le_in {x = pos a} {y = pos b} h = omega (arith, leb→le a b h.le)
le_in {x = pos a} {y = negsuc b} h = absurd h.le
le_in {x = negsuc a} {y = pos b} h = omega arith
le_in {x = negsuc a} {y = negsuc b} h = omega (arith, leb→le b a h.le)

pub le_out : {x y : ℤ} → plus_part x + minus_part y ≤ plus_part y + minus_part x → x ≤ℤ y
le_out {x = pos a} {y = pos b} h = record { le = le→leb a b (omega arith) }
le_out {x = pos a} {y = negsuc b} h = absurd (omega arith)
le_out {x = negsuc a} {y = pos b} h = record { le = tt }
le_out {x = negsuc a} {y = negsuc b} h = record { le = le→leb b a (omega arith) }

pub lt_in : {x y : ℤ} → x <ℤ y → plus_part x + minus_part y < plus_part y + minus_part x
lt_in {x = pos a} {y = pos b} h = omega (arith, ltb→lt a b h.lt)
lt_in {x = pos a} {y = negsuc b} h = absurd h.lt
lt_in {x = negsuc a} {y = pos b} h = omega arith
lt_in {x = negsuc a} {y = negsuc b} h = omega (arith, ltb→lt b a h.lt)

pub lt_out : {x y : ℤ} → plus_part x + minus_part y < plus_part y + minus_part x → x <ℤ y
lt_out {x = pos a} {y = pos b} h = record { lt = lt→ltb a b (omega arith) }
lt_out {x = pos a} {y = negsuc b} h = absurd (omega arith)
lt_out {x = negsuc a} {y = pos b} h = record { lt = tt }
lt_out {x = negsuc a} {y = negsuc b} h = record { lt = lt→ltb b a (omega arith) }

pub eq_out : (x y : ℤ) → plus_part x + minus_part y ≡ plus_part y + minus_part x → x ≡ y
eq_out x y e = parts x ∙ ⊖_eq (plus_part x) (minus_part x) (plus_part y) (minus_part y) e ∙ sym (parts y)

pub eq_in : (x y : ℤ) → x ≡ y → plus_part x + minus_part y ≡ plus_part y + minus_part x
eq_in x y e = subst (λ (z : ℤ). plus_part x + minus_part z ≡ plus_part z + minus_part x) e refl

-- the parts of a difference
sub_parts : (t : Bool) (a b : ℕ) → (T t → a < suc b) → (T (not t) → suc b ≤ a) → plus_part (cond t (negsuc (suc b - suc a)) (pos (a - suc b))) + suc b ≡ a + minus_part (cond t (negsuc (suc b - suc a)) (pos (a - suc b)))
sub_parts true a b f g = omega (arith, f tt)
sub_parts false a b f g = omega (arith, g tt)

pub ⊖_parts : (a b : ℕ) → plus_part (a ⊖ b) + b ≡ a + minus_part (a ⊖ b)
unfolding ◌⊖◌
⊖_parts a zero = omega arith
⊖_parts a (suc b) = sub_parts (ltb a (suc b)) a b (ltb→lt a (suc b)) (nltb→le a (suc b))

pub ⊖_le : (a b c d : ℕ) → a + d ≤ c + b → (a ⊖ b) ≤ℤ (c ⊖ d)
⊖_le a b c d h = le_out (omega (arith, ⊖_parts a b, ⊖_parts c d))

pub ⊖_lt : (a b c d : ℕ) → a + d < c + b → (a ⊖ b) <ℤ (c ⊖ d)
⊖_lt a b c d h = lt_out (omega (arith, ⊖_parts a b, ⊖_parts c d))

pub le_⊖ : (a b c d : ℕ) → (a ⊖ b) ≤ℤ (c ⊖ d) → a + d ≤ c + b
le_⊖ a b c d h = omega (arith, ⊖_parts a b, ⊖_parts c d, le_in h)

pub lt_⊖ : (a b c d : ℕ) → (a ⊖ b) <ℤ (c ⊖ d) → a + d < c + b
lt_⊖ a b c d h = omega (arith, ⊖_parts a b, ⊖_parts c d, lt_in h)

pub eq_⊖ : (a b c d : ℕ) → a ⊖ b ≡ c ⊖ d → a + d ≡ c + b
eq_⊖ a b c d h = omega (arith, ⊖_parts a b, ⊖_parts c d, eq_in (a ⊖ b) (c ⊖ d) h)

-- ---- to prove a law of all integers, prove it of all differences
pub diff1 {ℓ} : (P : ℤ → Type ℓ) → ((a b : ℕ) → P (a ⊖ b)) → (x : ℤ) → P x
diff1 P f x = subst P (sym (parts x)) (f (plus_part x) (minus_part x))

pub diff2 {ℓ} : (P : ℤ → ℤ → Type ℓ) → ((a b c d : ℕ) → P (a ⊖ b) (c ⊖ d)) → (x y : ℤ) → P x y
diff2 P f x y = diff1 (λ (z : ℤ). P x z) (λ c d. diff1 (λ (z : ℤ). P z (c ⊖ d)) (λ a b. f a b c d) x) y

pub diff3 {ℓ} : (P : ℤ → ℤ → ℤ → Type ℓ) → ((a b c d e f : ℕ) → P (a ⊖ b) (c ⊖ d) (e ⊖ f)) → (x y z : ℤ) → P x y z
diff3 P g x y z = diff1 (λ (w : ℤ). P x y w) (λ e f. diff2 (λ (u v : ℤ). P u v (e ⊖ f)) (λ a b c d. g a b c d e f) x y) z

pub diff4 {ℓ} : (P : ℤ → ℤ → ℤ → ℤ → Type ℓ) → ((a b c d e f g h : ℕ) → P (a ⊖ b) (c ⊖ d) (e ⊖ f) (g ⊖ h)) → (x y z w : ℤ) → P x y z w
diff4 P k x y z w = diff2 (λ (u v : ℤ). P x y u v) (λ e f g h. diff2 (λ (u v : ℤ). P u v (e ⊖ f) (g ⊖ h)) (λ a b c d. k a b c d e f g h) x y) z w

-- moves differences outwards
pub ruleset differences-out = (⊖_add, ⊖_neg, ⊖_mul, ⊖_pos, ⊖_negsuc)

-- what `omega` reads and shows of differences
pub ruleset difference-arith = (arith, ⊖_eq, ⊖_le, ⊖_lt, le_⊖, lt_⊖, eq_⊖)

-- the recipe: `diffN (λ .. simp differences-out (omega difference-arith))`
pub *ℤ_assoc : (a b c : ℤ) → a *ℤ b *ℤ c ≡ a *ℤ (b *ℤ c)
*ℤ_assoc = diff3 _ (λ a b c d e f. simp differences-out (omega difference-arith))

pub +ℤ_mono : (a b c d : ℤ) → a ≤ℤ b → c ≤ℤ d → (a +ℤ c) ≤ℤ (b +ℤ d)
+ℤ_mono = diff4 _ (λ a b c d e f g h p q. simp differences-out (omega difference-arith))

pub ≤ℤ_trans : (a b c : ℤ) → a ≤ℤ b → b ≤ℤ c → a ≤ℤ c
≤ℤ_trans = diff3 _ (λ a b c d e f p q. omega difference-arith)
