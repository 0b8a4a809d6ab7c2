-- Areas by their values: as a row function leaves them, through a later one, and their bounds.
use mathlib.Core.Path.{◌≡◌, refl, sym, ◌∙◌, ap, subst}
use mathlib.Core.List.{List}
use Prim.Native.Nat.{ℕ, ◌+◌, ◌-◌, ◌*◌, ◌≤◌, ◌<◌}
use native.Mathlib.Omega.{arith}
use lib.IntN.{ℤ, pos, nat_abs}
use lib.ListN.{length, get_or}
use Rattle.laws.specs.Runs.{stamp, stamp_at, stamp_before, stamp_after}
use Rattle.laws.specs.Bounds.{Samples, samples_part, samples_same}
use Rattle.standard.specs.SelfGuided.{a2_of}
use Rattle.boxes.specs.Reads.{sample_at}
use Rattle.boxes.specs.BoxRows.{Run, Kept}
use Rattle.boxes.specs.Tables.{Shares, Weighed}
use Rattle.boxes.proofs.Words.{not_negative}
use Rattle.boxes.proofs.ScaleLaws.{a2_low, a2_most}

pub run_new : (f : ℕ → ℕ) (at n : ℕ) (d : List ℤ) {l : List ℤ} → l ≡ stamp (λ j. pos (f j)) at n d → at + n ≤ length d → Run f at n l
run_new f at n d {l} e h = record { is = λ j p. stamp_at (λ j. pos (f j)) at n d l j (at + j) (pos 0) e h p (omega arith) }

pub run_same : {f : ℕ → ℕ} {at n : ℕ} {l : List ℤ} (g : ℕ → ℕ) → Run f at n l → ((j : ℕ) → j < n → f j ≡ g j) → Run g at n l
run_same g p h = record { is = λ j q. p.is j q ∙ ap pos (h j q) }

pub run_kept : {f : ℕ → ℕ} {at n lo hi : ℕ} {s t : List ℤ} → Run f at n s → Kept lo hi s t → lo ≤ at → at + n ≤ hi → Run f at n t
run_kept {at = at} p k u v = record { is = λ j q. k.same (at + j) (omega arith) (omega arith) ∙ p.is j q }

-- a sample of a run
pub run_at : {f : ℕ → ℕ} {at n : ℕ} {l : List ℤ} → Run f at n l → (j : ℕ) → j < n → sample_at l (at + j) ≡ f j
run_at p j h = ap nat_abs (p.is j h)

-- and by its place
pub run_here : {f : ℕ → ℕ} {at n : ℕ} {l : List ℤ} → Run f at n l → (k : ℕ) → at ≤ k → k < at + n → get_or l k (pos 0) ≡ pos (f (k - at))
run_here {at = at} {l = l} p k u v = ap (λ (i : ℕ). get_or l i (pos 0)) (omega arith) ∙ p.is (k - at) (omega arith)

pub run_samples : {f : ℕ → ℕ} {at n : ℕ} {l : List ℤ} (m : ℕ) → Run f at n l → ((j : ℕ) → j < n → f j ≤ m) → Samples m at (at + n) l
run_samples {at = at} m p h = record {
  low = λ k u v. not_negative (run_here p k u v);
  size = λ k u v. subst (λ (z : ℤ). nat_abs z ≤ m) (sym (run_here p k u v)) (h (k - at) (omega arith));
}

pub run_shares : (g : ℕ → ℕ) {at n : ℕ} {l : List ℤ} → Run (λ j. a2_of (g j)) at n l → Shares at (at + n) l
run_shares g {at} p = record {
  whole = run_samples 256 p (λ j h. a2_most (g j));
  some = λ k u v. subst (λ (z : ℤ). 1 ≤ nat_abs z) (sym (run_here p k u v)) (a2_low (g (k - at)));
}

pub run_weighed : {f : ℕ → ℕ} (o : ℕ) {at n : ℕ} {l : List ℤ} → Run f at n l → ((j : ℕ) → j < n → f j ≤ 102375) → ((j : ℕ) → j < n → f j * o ≤ 16789500) → Weighed o at (at + n) l
run_weighed o {at} p h q = record {
  whole = run_samples 102375 p h;
  small = λ k u v. subst (λ (z : ℤ). nat_abs z * o ≤ 16789500) (sym (run_here p k u v)) (q (k - at) (omega arith));
}

-- ---- places that a row function leaves as they were
module _ (f : ℕ → ℤ) (to n : ℕ) (s : List ℤ) {t : List ℤ} (e : t ≡ stamp f to n s) where
  pub kept_before : (lo hi : ℕ) → hi ≤ to → Kept lo hi s t
  kept_before lo hi h = record { same = λ k u v. stamp_before f to n s t k (pos 0) e (omega arith) }

  pub kept_after : (lo hi : ℕ) → to + n ≤ lo → Kept lo hi s t
  kept_after lo hi h = record { same = λ k u v. stamp_after f to n s t k (pos 0) e (omega arith) }

  -- what the function reads there
  pub sample_before : (k : ℕ) → k < to → sample_at t k ≡ sample_at s k
  sample_before k h = ap nat_abs (stamp_before f to n s t k (pos 0) e h)

  pub samples_before : {m lo hi : ℕ} (a b : ℕ) → Samples m lo hi s → lo ≤ a → b ≤ hi → b ≤ to → Samples m a b t
  samples_before a b p u v h = samples_same t (samples_part a b p u v) (λ k q r. stamp_before f to n s t k (pos 0) e (omega arith))

pub kept_on : {lo hi : ℕ} {s t u : List ℤ} → Kept lo hi s t → Kept lo hi t u → Kept lo hi s u
kept_on p q = record { same = λ k u v. q.same k u v ∙ p.same k u v }

pub kept_part : {lo hi : ℕ} {s t : List ℤ} (a b : ℕ) → Kept lo hi s t → lo ≤ a → b ≤ hi → Kept a b s t
kept_part a b p u v = record { same = λ k l m. p.same k (omega arith) (omega arith) }

pub kept_none : (lo hi : ℕ) (s : List ℤ) → Kept lo hi s s
kept_none lo hi s = record { same = λ k u v. refl }

pub samples_kept : {m lo hi : ℕ} {s t : List ℤ} → Samples m lo hi s → Kept lo hi s t → Samples m lo hi t
samples_kept {t = t} p k = samples_same t p k.same
