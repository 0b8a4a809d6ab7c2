-- Bounds on the numbers of a slice's part: `Sized m lo hi s`, sizes at most m at lo ≤ k < hi; `Samples m lo hi s`, samples 0 .. m there.
use Rattle.std.specs.Prelude.{◌≡◌, List, ℕ, ◌+◌, ◌<◌, ◌≤◌, ℤ, pos, nat_abs, ◌≤ℤ◌, get_or, take, drop}
use Rattle.std.proofs.Common.{sym, subst, arith, le_trans}
use Rattle.std.specs.Int.Signed.{yes_non_neg, pos-nat_abs}
use Rattle.laws.specs.Index.{part_at}

pub record Sized (m lo hi : ℕ) (s : List ℤ) : Type 0 where
  pub size : (k : ℕ) → lo ≤ k → k < hi → nat_abs (get_or s k (pos 0)) ≤ m

pub record Samples (m lo hi : ℕ) (s : List ℤ) : Type 0 where
  pub low : (k : ℕ) → lo ≤ k → k < hi → pos 0 ≤ℤ get_or s k (pos 0)
  pub size : (k : ℕ) → lo ≤ k → k < hi → nat_abs (get_or s k (pos 0)) ≤ m

-- a sample is its own size
pub sample_is : {m lo hi : ℕ} {s : List ℤ} → Samples m lo hi s → (k : ℕ) → lo ≤ k → k < hi → pos (nat_abs (get_or s k (pos 0))) ≡ get_or s k (pos 0)
sample_is {s = s} p k u v = pos-nat_abs (get_or s k (pos 0)) (yes_non_neg (p.low k u v))

pub samples_sized : {m lo hi : ℕ} {s : List ℤ} → Samples m lo hi s → Sized m lo hi s
samples_sized p = record { size = p.size }

-- of a smaller part, and with a larger bound
pub sized_part : {m lo hi : ℕ} {s : List ℤ} (a b : ℕ) → Sized m lo hi s → lo ≤ a → b ≤ hi → Sized m a b s
sized_part a b p q r = record { size = λ k u v. p.size k (omega arith) (omega arith) }

pub samples_part : {m lo hi : ℕ} {s : List ℤ} (a b : ℕ) → Samples m lo hi s → lo ≤ a → b ≤ hi → Samples m a b s
samples_part a b p q r = record { low = λ k u v. p.low k (omega arith) (omega arith); size = λ k u v. p.size k (omega arith) (omega arith) }

pub sized_widen : {m lo hi : ℕ} {s : List ℤ} (n : ℕ) → m ≤ n → Sized m lo hi s → Sized n lo hi s
sized_widen n h p = record { size = λ k u v. le_trans (p.size k u v) h }

-- of a list that is equal there
pub sized_same : {m lo hi : ℕ} {s : List ℤ} (t : List ℤ) → Sized m lo hi s → ((k : ℕ) → lo ≤ k → k < hi → get_or t k (pos 0) ≡ get_or s k (pos 0)) → Sized m lo hi t
sized_same {m} t p h = record { size = λ k u v. subst (λ (z : ℤ). nat_abs z ≤ m) (sym (h k u v)) (p.size k u v) }

pub samples_same : {m lo hi : ℕ} {s : List ℤ} (t : List ℤ) → Samples m lo hi s → ((k : ℕ) → lo ≤ k → k < hi → get_or t k (pos 0) ≡ get_or s k (pos 0)) → Samples m lo hi t
samples_same {m} t p h = record {
  low = λ k u v. subst (λ (z : ℤ). pos 0 ≤ℤ z) (sym (h k u v)) (p.low k u v);
  size = λ k u v. subst (λ (z : ℤ). nat_abs z ≤ m) (sym (h k u v)) (p.size k u v);
}

-- of a lent part, by its own places
pub sized_lent : {m lo hi : ℕ} {s : List ℤ} (a n : ℕ) → Sized m lo hi s → lo ≤ a → a + n ≤ hi → Sized m 0 n (take n (drop a s))
sized_lent {m} {s = s} a n p q r = record { size = λ k u v. subst (λ (z : ℤ). nat_abs z ≤ m) (sym (part_at a n s k (pos 0) v)) (p.size (a + k) (omega arith) (omega arith)) }

pub samples_lent : {m lo hi : ℕ} {s : List ℤ} (a n : ℕ) → Samples m lo hi s → lo ≤ a → a + n ≤ hi → Samples m 0 n (take n (drop a s))
samples_lent {m} {s = s} a n p q r = record {
  low = λ k u v. subst (λ (z : ℤ). pos 0 ≤ℤ z) (sym (part_at a n s k (pos 0) v)) (p.low (a + k) (omega arith) (omega arith));
  size = λ k u v. subst (λ (z : ℤ). nat_abs z ≤ m) (sym (part_at a n s k (pos 0) v)) (p.size (a + k) (omega arith) (omega arith));
}
