-- Boolean tests and what they say. `lib.Dec` and `borrow.Author.Tests` have the tests of one order; here are their combinations.
use Rattle.std.specs.Prelude.{◌≡◌, refl, Bool, true, false, cond, not, ◌&&◌, ◌||◌, ℕ, ◌<◌, ◌≤◌, T, ltb}
use Rattle.std.proofs.Common.{ap, subst, ltb→lt, nltb→le}

pub and_l : (a b : Bool) → T (a && b) → T a
and_l true b t = tt
and_l false b t = t

pub and_r : (a b : Bool) → T (a && b) → T b
and_r true b t = t
and_r false b t = absurd t

pub and_both : (a b : Bool) → T a → T b → T (a && b)
and_both true b s t = t
and_both false b s t = s

pub is_true : (b : Bool) → T b → b ≡ true
is_true true t = refl
is_true false t = absurd t

pub is_false : (b : Bool) → (T b → ⊥) → b ≡ false
is_false true f = absurd (f tt)
is_false false f = refl

pub or_no : (a b : Bool) → (a || b) ≡ false → (a ≡ false) × (b ≡ false)
or_no true b e = absurd (subst T e tt)
or_no false b e = (refl, e)

pub not_no : (b : Bool) → not b ≡ false → T b
not_no true e = tt
not_no false e = absurd (subst T e tt)

pub false_not : (b : Bool) → b ≡ false → T (not b)
false_not true e = absurd (subst T e tt)
false_not false e = tt

-- the arms of a definition by `cond`, for `rw` and `simp`
pub cond_true {ℓ} : {A : Type ℓ} (b : Bool) (x y : A) → b ≡ true → cond b x y ≡ x
cond_true b x y e = ap (λ (t : Bool). cond t x y) e

pub cond_false {ℓ} : {A : Type ℓ} (b : Bool) (x y : A) → b ≡ false → cond b x y ≡ y
cond_false b x y e = ap (λ (t : Bool). cond t x y) e

-- the test m < n with what it says, to go by its two cases
pub data Test (m n : ℕ) : Bool → Type 0 where
  below : m < n → Test m n true
  above : n ≤ m → Test m n false

pub test : (m n : ℕ) → Test m n (ltb m n)
test m n = go (ltb m n) (ltb→lt m n) (nltb→le m n)
  where
    go : (b : Bool) → (T b → m < n) → (T (not b) → n ≤ m) → Test m n b
    go true f k = below (f tt)
    go false f k = above (k tt)
