-- The first place that a test fails: of a unit table, of a run of samples. Both of the table's numbers, 11 and 15, are one comparison with it.
use Rattle.std.specs.Prelude.{◌≡◌, refl, Bool, true, false, cond, not, ◌&&◌, List, [], ◌∷◌, ℕ, zero, suc, ◌-◌, ◌/◌, ◌^◌, ◌<◌, ◌≤◌, ℤ, pos, length, get_or, T, ltb}
use Rattle.std.proofs.Common.{sym, ◌∙◌, subst, arith, lt-ltb, le-ltb}
use Rattle.laws.specs.Lists.{all, all_below, below_at}
use Rattle.laws.specs.Tests.{Test, test, is_true, is_false, and_both}
use Rattle.standard.specs.Units.{between, legal_entry}
use Rattle.standard.specs.Refusals.{no11, no15}

-- the first k below n that f fails, or n
unfoldable pub first_failing : ℕ → (ℕ → Bool) → ℕ
first_failing zero f = 0
first_failing (suc n) f = cond (f 0) (suc (first_failing n (λ k. f (suc k)))) 0

-- a test's answer as a number: 0 where it is passed, else 1
abbrev pub failed : Bool → ℕ
failed b = cond b 0 1

-- the first illegal entry of a unit table, or the number of its entries
unfoldable pub first_illegal : ℕ → List ℤ → ℕ
first_illegal plane t = first_failing (length t / 10) (legal_entry plane t)

-- sample k of s lies in 0 .. top
unfoldable pub in_range : ℤ → List ℤ → ℕ → Bool
in_range top s k = between (pos 0) top (get_or s k (pos 0))

-- the first sample out of range, or the number of samples
unfoldable pub first_outside : ℕ → List ℤ → ℕ
first_outside depth s = first_failing (length s) (in_range (pos (2 ^ depth - 1)) s)

-- ---- what it says
pub first_le : (n : ℕ) (f : ℕ → Bool) → first_failing n f ≤ n
unfolding first_failing
first_le zero f = omega arith
first_le (suc n) f = go (f 0) (first_le n (λ k. f (suc k)))
  where
    go : (b : Bool) → first_failing n (λ k. f (suc k)) ≤ n → cond b (suc (first_failing n (λ k. f (suc k)))) 0 ≤ suc n
    go true h = omega arith
    go false h = omega arith

-- every place before it passes
pub first_before : (n : ℕ) (f : ℕ → Bool) (k : ℕ) → k < first_failing n f → T (f k)
unfolding first_failing
first_before zero f k h = absurd (omega arith)
first_before (suc n) f k h = go (f 0) refl k h (λ j. first_before n (λ k. f (suc k)) j)
  where
    go : (b : Bool) → f 0 ≡ b → (k : ℕ) → k < cond b (suc (first_failing n (λ k. f (suc k)))) 0 → ((j : ℕ) → j < first_failing n (λ k. f (suc k)) → T (f (suc j))) → T (f k)
    go true e zero h rest = subst T (sym e) tt
    go true e (suc k) h rest = rest k (omega arith)
    go false e k h rest = absurd (omega arith)

-- the place itself fails
pub first_fails : (n : ℕ) (f : ℕ → Bool) → first_failing n f < n → f (first_failing n f) ≡ false
unfolding first_failing
first_fails zero f h = absurd (omega arith)
first_fails (suc n) f h = go (f 0) refl h (first_fails n (λ k. f (suc k)))
  where
    go : (b : Bool) → f 0 ≡ b → cond b (suc (first_failing n (λ k. f (suc k)))) 0 < suc n → (first_failing n (λ k. f (suc k)) < n → f (suc (first_failing n (λ k. f (suc k)))) ≡ false) →
        f (cond b (suc (first_failing n (λ k. f (suc k)))) 0) ≡ false
    go true e h rest = rest (omega arith)
    go false e h rest = e

apart : {A : Type 0} {b : Bool} → T b → b ≡ false → A
apart t e = absurd (subst T e t)

-- it is the only such place
pub first_at : (n : ℕ) (f : ℕ → Bool) (i : ℕ) → i < n → T (all_below i f) → f i ≡ false → first_failing n f ≡ i
first_at n f i h t e =
    let low : i < first_failing n f → ⊥ = λ p. apart (first_before n f i p) e in
    let high : first_failing n f < i → ⊥ = λ p. apart (below_at i f t (first_failing n f) p) (first_fails n f (omega arith)) in
    omega (arith, low, high)

pub first_none : (n : ℕ) (f : ℕ → Bool) → T (all_below n f) → first_failing n f ≡ n
first_none n f t =
    let high : first_failing n f < n → ⊥ = λ p. apart (below_at n f t (first_failing n f) p) (first_fails n f p) in
    omega (arith, high, first_le n f)

-- ---- beside the tests of all places
below_all : (n : ℕ) (f : ℕ → Bool) → ((k : ℕ) → k < n → T (f k)) → T (all_below n f)
unfolding all_below
below_all zero f h = tt
below_all (suc n) f h = and_both (all_below n f) (f n) (below_all n f (λ k p. h k (omega arith))) (h n (omega arith))

pub fails_below : (n : ℕ) (f : ℕ → Bool) → not (all_below n f) ≡ ltb (first_failing n f) n
fails_below n f = go (ltb (first_failing n f) n) (test (first_failing n f) n)
  where
    go : (b : Bool) → Test (first_failing n f) n b → not (all_below n f) ≡ b
    go true (Test.below p) = rw (is_false (all_below n f) (λ t. apart (below_at n f t (first_failing n f) p) (first_fails n f p)))
    go false (Test.above p) = rw (is_true (all_below n f) (below_all n f (λ k h. first_before n f k (omega arith))))

next_test : (a b : ℕ) → ltb a b ≡ ltb (suc a) (suc b)
next_test a b = go (ltb a b) (test a b)
  where
    go : (t : Bool) → Test a b t → t ≡ ltb (suc a) (suc b)
    go true (Test.below p) = sym (lt-ltb (suc a) (suc b) (omega arith))
    go false (Test.above p) = sym (le-ltb (suc a) (suc b) (omega arith))

pub fails_list : {A : Type 0} (g : A → Bool) (z : A) (s : List A) → not (all g s) ≡ ltb (first_failing (length s) (λ k. g (get_or s k z))) (length s)
unfolding all first_failing
fails_list g z [] = refl
fails_list g z (a ∷ s) = go (g a) (fails_list g z s)
  where
    go : (b : Bool) → not (all g s) ≡ ltb (first_failing (length s) (λ k. g (get_or s k z))) (length s) →
        not (b && all g s) ≡ ltb (cond b (suc (first_failing (length s) (λ k. g (get_or s k z)))) 0) (suc (length s))
    go true h = h ∙ next_test (first_failing (length s) (λ k. g (get_or s k z))) (length s)
    go false h = sym (lt-ltb 0 (suc (length s)) (omega arith))

-- ---- numbers 11 and 15
pub no11_first : (plane : ℕ) (t : List ℤ) → no11 plane t ≡ ltb (first_illegal plane t) (length t / 10)
unfolding no11 first_illegal
no11_first plane t = fails_below (length t / 10) (legal_entry plane t)

pub no15_first : (depth : ℕ) (s : List ℤ) → no15 depth s ≡ ltb (first_outside depth s) (length s)
unfolding no15 first_outside in_range
no15_first depth s = fails_list (between (pos 0) (pos (2 ^ depth - 1))) (pos 0) s
