-- What the machine reads of a signed number, `to_z w (of_z w x)`, and what its tests tell.
use Rattle.std.specs.Prelude.{◌≡◌, ℕ, ◌*◌, ◌%◌, ◌^◌, ◌<◌, ◌≤◌, Bool, true, false, not, T, ltb, ℤ, pos, negsuc, nat_abs, ◌≤ℤ◌, ◌<ℤ◌}
use Rattle.std.proofs.Common.{sym, ◌∙◌, ap, subst, arith, lt_of_le_of_lt, lt_of_lt_of_le, one-mul, mod-eq_of_lt, ltb→lt, lt→ltb, lit≤, pow_mono, to_z-of_z}
use Rattle.std.proofs.Math.Dec.{nleb→lt}
use Rattle.std.proofs.Math.Pow.{pow-lt}
use Rattle.std.specs.Int.Signed.{mag, le_z, lt_z, lt_z_no, le_z_yes, lt_z_yes, clash_ℤ, non_neg, yes_non_neg, pos-nat_abs}
use Rattle.std.specs.Int.{Width, w8, w16, w32, w64, w128}
use mir.Val.{Fits, bits, hbits, to_z, of_z}
use Rattle.std.proofs.Math.Facts.{to_z_pos}
use Rattle.laws.specs.Integers.{le_in, le_out, lt_in, lt_out}
use Rattle.laws.specs.Tests.{is_true, is_false}
use Rattle.laws.specs.SignedCode.{Expression, Held}

-- a test on what is read is the test on the numbers: `lt_at (to_z-of_z f) refl c.if1.taken`
pub lt_at : {r s x y : ℤ} {b : Bool} → r ≡ x → s ≡ y → lt_z r s ≡ b → lt_z x y ≡ b
lt_at {r = r} {s = s} {x = x} p q e = sym (ap (λ (z : ℤ). lt_z z s) p ∙ ap (λ (z : ℤ). lt_z x z) q) ∙ e

pub le_at : {r s x y : ℤ} {b : Bool} → r ≡ x → s ≡ y → le_z r s ≡ b → le_z x y ≡ b
le_at {r = r} {s = s} {x = x} p q e = sym (ap (λ (z : ℤ). le_z z s) p ∙ ap (λ (z : ℤ). le_z x z) q) ∙ e

-- what a test tells
pub lt_true : {x y : ℤ} → lt_z x y ≡ true → x <ℤ y
lt_true e = lt_z_yes (subst T (sym e) tt)

pub lt_false : {x y : ℤ} → lt_z x y ≡ false → y ≤ℤ x
lt_false e = lt_z_no (subst (λ (b : Bool). T (not b)) (sym e) tt)

pub le_true : {x y : ℤ} → le_z x y ≡ true → x ≤ℤ y
le_true e = le_z_yes (subst T (sym e) tt)

flip : (x y : ℤ) → T (not (le_z x y)) → y <ℤ x
flip (pos a) (pos b) t = lt_z_yes (lt→ltb b a (nleb→lt a b t))
flip (pos a) (negsuc b) t = lt_z_yes tt
flip (negsuc a) (pos b) t = absurd t
flip (negsuc a) (negsuc b) t = lt_z_yes (lt→ltb a b (nleb→lt b a t))

pub le_false : {x y : ℤ} → le_z x y ≡ false → y <ℤ x
le_false {x} {y} e = flip x y (subst (λ (b : Bool). T (not b)) (sym e) tt)

-- both at once: `lt_yes (to_z-of_z f) refl c.if1.taken`
pub lt_yes : {r s x y : ℤ} → r ≡ x → s ≡ y → lt_z r s ≡ true → x <ℤ y
lt_yes p q e = lt_true (lt_at p q e)

pub lt_no : {r s x y : ℤ} → r ≡ x → s ≡ y → lt_z r s ≡ false → y ≤ℤ x
lt_no p q e = lt_false (lt_at p q e)

pub le_yes : {r s x y : ℤ} → r ≡ x → s ≡ y → le_z r s ≡ true → x ≤ℤ y
le_yes p q e = le_true (le_at p q e)

pub le_no : {r s x y : ℤ} → r ≡ x → s ≡ y → le_z r s ≡ false → y <ℤ x
le_no p q e = le_false (le_at p q e)

-- and the test's value, from the fact
pub true_lt : {x y : ℤ} → x <ℤ y → lt_z x y ≡ true
true_lt {x} {y} h = is_true (lt_z x y) h.lt

pub false_lt : {x y : ℤ} → y ≤ℤ x → lt_z x y ≡ false
false_lt {x} {y} h = is_false (lt_z x y) (λ t. clash_ℤ (lt_z_yes {a = x} {b = y} t) h)

pub false_le : {x y : ℤ} → y <ℤ x → le_z x y ≡ false
false_le {x} {y} h = is_false (le_z x y) (λ t. clash_ℤ h (le_z_yes {a = x} {b = y} t))

pub true_le : {x y : ℤ} → x ≤ℤ y → le_z x y ≡ true
true_le {x} {y} h = is_true (le_z x y) h.le

-- linear order by omega, in any terms: `omega integer-order`
pub ruleset integer-order = (arith, le_in, lt_in, le_out, lt_out)

chain : (a b c d : ℤ) → a ≤ℤ b → b <ℤ c → c ≤ℤ d → a <ℤ d
chain a b c d p q r = omega integer-order

-- ---- atoms of an expression
-- `1 << k`, at a width w
pub one_shl : (w : Width) (k : ℕ) → k < hbits w → (1 * 2 ^ k) % 2 ^ bits w ≡ 2 ^ k
one_shl w k h = ap (λ (n : ℕ). n % 2 ^ bits w) (one-mul (2 ^ k)) ∙ mod-eq_of_lt (pow-lt (lt_of_lt_of_le h (hbits_le w)))
  where
    hbits_le : (w : Width) → hbits w ≤ bits w
    hbits_le w8 = lit≤ tt
    hbits_le w16 = lit≤ tt
    hbits_le w32 = lit≤ tt
    hbits_le w64 = lit≤ tt
    hbits_le w128 = lit≤ tt

pub read_shl : (w : Width) (k : ℕ) → k < hbits w → to_z w ((1 * 2 ^ k) % 2 ^ bits w) ≡ pos (2 ^ k)
read_shl w k h = ap (to_z w) (one_shl w k h) ∙ to_z_pos w (pow-lt h)

abbrev pub one_shifted : (w : Width) (k j : ℕ) → k ≤ j → T (ltb j (hbits w)) → Expression
one_shifted w k j h t = Held (to_z w ((1 * 2 ^ k) % 2 ^ bits w)) (pos (2 ^ k)) (2 ^ j) (read_shl w k (lt_of_le_of_lt h (ltb→lt j (hbits w) t))) (pow_mono h)

-- what is read of a call's result, from what the call ensures: `returned w32 c.f.fits_all c.f.ensures`
pub returned : (w : Width) {r v : ℤ} → mag r < 2 ^ hbits w → r ≡ v → to_z w (of_z w r) ≡ v
returned w h e = to_z-of_z {w = w} (record { sfits = h }) ∙ e

-- a size, of what is read
pub abs_at : {r x : ℤ} {m : ℕ} → r ≡ x → nat_abs x ≤ m → nat_abs r ≤ m
abs_at {m = m} e h = subst (λ (z : ℤ). nat_abs z ≤ m) (sym e) h

-- what holds of the numbers holds of what is read of them
pub of_read : (P : ℤ → Type 0) {r x : ℤ} → r ≡ x → P x → P r
of_read P p h = subst P (sym p) h

pub of_read3 : (P : ℤ → ℤ → ℤ → Type 0) {r s t x y z : ℤ} → r ≡ x → s ≡ y → t ≡ z → P x y z → P r s t
of_read3 P {s = s} {t = t} {x = x} {y = y} p q u h = subst (λ a. P a s t) (sym p) (subst (λ a. P x a t) (sym q) (subst (P x y) (sym u) h))

-- a cast to an unsigned type of a number in 0 .. m: the answer to its need, and what it gives
pub cast_unsigned_at : (v : Width) {r x : ℤ} {m : ℕ} → r ≡ x → pos 0 ≤ℤ x → x ≤ℤ pos m → Fits v m → T (non_neg r) × Fits v (nat_abs r)
cast_unsigned_at v {x = x} {m = m} e p q f = subst (λ (z : ℤ). T (non_neg z) × Fits v (nat_abs z)) (sym e) (yes_non_neg p, record { fits = lt_of_le_of_lt (abs_le p q) f.fits })
  where
    abs_le : {x : ℤ} {m : ℕ} → pos 0 ≤ℤ x → x ≤ℤ pos m → nat_abs x ≤ m
    abs_le {x = pos n} p q = omega (arith, le_in q)
    abs_le {x = negsuc n} p q = absurd p.le

pub cast_value_at : {r x : ℤ} → r ≡ x → pos 0 ≤ℤ x → pos (nat_abs r) ≡ x
cast_value_at {x = x} e p = subst (λ (z : ℤ). pos (nat_abs z) ≡ x) (sym e) (pos-nat_abs x (yes_non_neg p))
