-- The number that each test of one sample gives, where earlier ones have answered; what is known where none gives one; and the answer.
use mathlib.Core.Path.{◌≡◌, refl, sym, ◌∙◌, ap, subst}
use mathlib.Core.Bool.{Bool, true, false, cond, not, ◌&&◌}
use mathlib.Core.List.{List}
use Prim.Native.Nat.{ℕ, zero, suc, ◌+◌, ◌-◌, ◌*◌, ◌^◌, ◌<◌, ◌≤◌}
use native.Mathlib.Omega.{arith}
use borrow.Author.Tests.{eq-eqb, ne_eqb, eqb-true, not-false}
use lib.Dec.{T, eqb, ltb, leb, leb→le, le→leb, leb-zero}
use lib.IntN.{ℤ, pos, nat_abs, neg_ℤ, ◌-ℤ◌, +ℤ_idl}
use lib.ListN.{length, get_or}
use lib.Signed.{◌≤ℤ◌, le_z_yes}
use Rattle.laws.specs.Congruence.{ap2}
use Rattle.laws.specs.Bounds.{Samples}
use Rattle.laws.specs.Lists.{all_below, below_at}
use Rattle.laws.specs.Runs.{stamp, stamp_at, stamp_length}
use Rattle.laws.specs.Tests.{not_no}
use Rattle.standard.specs.declared.Depth.{Depth}
use Rattle.standard.specs.declared.Refusal.{Refusal}
use Rattle.standard.specs.declared.Refusal.TheVariants.{BadDepth, BadPlane, BadFrameType, BadFrameSide, BadUnitSize, WidthShrinks, BadShape, NotWider, BadEdgeRows, BadUnitTable, BadUnit, BadMarks, BadIndex, AlreadyRestored, BadSample, ShortScratch}
use Rattle.standard.specs.Answers.{refusal_number}
use Rattle.standard.specs.Depths.{bits, largest, depth_of}
use Rattle.standard.specs.Units.{between, legal_entry, kind_of}
use Rattle.standard.specs.Refusals.{first, no1, no15, wide, sample_tests}
use Rattle.standard.specs.Calls.{byte_window, sample_answer}
use Rattle.standard.specs.Fetch.{restored}
use Rattle.standard.proofs.Locality.{Agree, restored_local}
use Rattle.standard.proofs.Refusals.{sample_table}
use Rattle.units.specs.First.{first_failing, first_outside, in_range, fails_below, no15_first}
use Rattle.units.proofs.Depths.{bits_of}
use Rattle.sample.specs.Seen.{seen_at}

-- every one of the 49 samples is one of the depth
abbrev pub in_depth : ℕ → List ℕ → Bool
in_depth depth bytes = all_below 49 (λ k. leb (wide bytes k) (2 ^ depth - 1))

module _ (depth : ℕ) (entry : List ℤ) (bytes : List ℕ) where
  pub gives_1 : no1 depth ≡ true → 1 ≡ first (sample_tests depth entry bytes)
  unfolding sample_tests first
  gives_1 e = rw e

  module _ (e1 : no1 depth ≡ false) where
    pub gives_7 : (length bytes ≡ 98 → ⊥) → 7 ≡ first (sample_tests depth entry bytes)
    unfolding sample_tests first
    gives_7 e = rw (e1, ne_eqb (length bytes) 98 e)

    module _ (e7 : length bytes ≡ 98) where
      pub gives_11 : not (legal_entry 0 entry 0) ≡ true → 11 ≡ first (sample_tests depth entry bytes)
      unfolding sample_tests first
      gives_11 e = rw (e1, eq-eqb (length bytes) 98 e7, e)

      module _ (e11 : not (legal_entry 0 entry 0) ≡ false) where
        pub gives_15 : not (in_depth depth bytes) ≡ true → 15 ≡ first (sample_tests depth entry bytes)
        unfolding sample_tests first
        gives_15 e = rw (e1, eq-eqb (length bytes) 98 e7, e11, e)

        pub gives_0 : not (in_depth depth bytes) ≡ false → 0 ≡ first (sample_tests depth entry bytes)
        unfolding sample_tests first
        gives_0 e = rw (e1, eq-eqb (length bytes) 98 e7, e11, e)

-- ---- the samples as they are unpacked
first_same : (n : ℕ) (f g : ℕ → Bool) → ((k : ℕ) → k < n → f k ≡ g k) → first_failing n f ≡ first_failing n g
unfolding first_failing
first_same zero f g h = refl
first_same (suc n) f g h = ap2 (λ b m. cond b (suc m) 0) (h 0 (omega arith)) (first_same n (λ k. f (suc k)) (λ k. g (suc k)) (λ k p. h (suc k) (omega arith)))

module _ (bytes : List ℕ) (d s : List ℤ) (e : s ≡ stamp (λ k. pos (wide bytes k)) 0 49 d) (room : 49 ≤ length d) where
  pub unpacked_at : (k : ℕ) → k < 49 → get_or s k (pos 0) ≡ pos (wide bytes k)
  unpacked_at k p = stamp_at (λ k. pos (wide bytes k)) 0 49 d s k k (pos 0) e (omega arith) p (omega arith)

  pub outside_is : (depth : ℕ) → length d ≡ 49 → no15 depth s ≡ not (in_depth depth bytes)
  unfolding first_outside in_range
  outside_is depth h =
      let long = ap length e ∙ stamp_length (λ k. pos (wide bytes k)) 0 49 d ∙ h in
      no15_first depth s ∙ ap (λ (n : ℕ). ltb (first_failing n (in_range (pos (2 ^ depth - 1)) s)) n) long
      ∙ ap (λ (k : ℕ). ltb k 49) (first_same 49 _ _ (λ k p. ap (between (pos 0) (pos (2 ^ depth - 1))) (unpacked_at k p) ∙ ap (λ (b : Bool). b && leb (wide bytes k) (2 ^ depth - 1)) (leb-zero (wide bytes k))))
      ∙ sym (fails_below 49 (λ k. leb (wide bytes k) (2 ^ depth - 1)))

  pub seen_bytes : Agree (seen_at s) (byte_window bytes)
  unfolding seen_at byte_window
  seen_bytes = record { same = λ i j p q. ap nat_abs (unpacked_at (7 * i + j) (omega arith)) }

-- ---- where no number is given
pub record Passed (depth : ℕ) (entry : List ℤ) (bytes : List ℕ) : Type 0 where
  pub depth_known : no1 depth ≡ false
  pub long : length bytes ≡ 98
  pub legal : T (legal_entry 0 entry 0)
  pub range : (k : ℕ) → k < 49 → wide bytes k ≤ 2 ^ depth - 1

pub passed : (depth : ℕ) (entry : List ℤ) (bytes : List ℕ) → first (sample_tests depth entry bytes) ≡ 0 → Passed depth entry bytes
unfolding sample_tests
passed depth entry bytes e =
    let none = (sample_table depth entry bytes).complete e in
    record {
      depth_known = none 0;
      long = eqb-true (length bytes) 98 (not-false (eqb (length bytes) 98) (none 1));
      legal = not_no (legal_entry 0 entry 0) (none 2);
      range = λ k p. leb→le (wide bytes k) (2 ^ depth - 1) (below_at 49 (λ k. leb (wide bytes k) (2 ^ depth - 1)) (not_no (in_depth depth bytes) (none 3)) k p);
    }

module _ (depth : ℕ) (entry : List ℤ) (bytes : List ℕ) (ok : Passed depth entry bytes) (d s : List ℤ) (e : s ≡ stamp (λ k. pos (wide bytes k)) 0 49 d) (room : 49 ≤ length d) where
  pub unpacked : (b : Depth) → b ≡ depth_of depth → Samples (largest b) 0 49 s
  unpacked b q = record {
    low = λ k u v. subst (λ (z : ℤ). pos 0 ≤ℤ z) (sym (unpacked_at bytes d s e room k v)) (le_z_yes (le→leb 0 (wide bytes k) (omega arith)));
    size = λ k u v. subst (λ (z : ℤ). nat_abs z ≤ largest b) (sym (unpacked_at bytes d s e room k v))
        (subst (λ (n : ℕ). wide bytes k ≤ 2 ^ n - 1) (sym (ap bits q ∙ bits_of depth ok.depth_known)) (ok.range k v));
  }

-- ---- the answer
pub sample_done : (depth row : ℕ) (entry : List ℤ) (bytes : List ℕ) (s : List ℤ) → first (sample_tests depth entry bytes) ≡ 0 → Agree (seen_at s) (byte_window bytes) →
    pos (restored (depth_of depth) row (kind_of entry 0) (seen_at s)) ≡ sample_answer depth row entry bytes
unfolding sample_answer
sample_done depth row entry bytes s e a = rw (e, restored_local a (depth_of depth) row (kind_of entry 0))

pub sample_refused : (depth row : ℕ) (entry : List ℤ) (bytes : List ℕ) (n : ℕ) → n ≡ first (sample_tests depth entry bytes) → 1 ≤ n → neg_ℤ (pos n) ≡ sample_answer depth row entry bytes
unfolding sample_answer
sample_refused depth row entry bytes n e h = rw (e, ne_eqb (first (sample_tests depth entry bytes)) 0 (λ z. omega arith))

pub few_numbers : (a : Refusal) → refusal_number a ≤ 16
unfolding refusal_number
few_numbers BadDepth = omega arith
few_numbers BadPlane = omega arith
few_numbers BadFrameType = omega arith
few_numbers BadFrameSide = omega arith
few_numbers BadUnitSize = omega arith
few_numbers WidthShrinks = omega arith
few_numbers BadShape = omega arith
few_numbers NotWider = omega arith
few_numbers BadEdgeRows = omega arith
few_numbers BadUnitTable = omega arith
few_numbers BadUnit = omega arith
few_numbers BadMarks = omega arith
few_numbers BadIndex = omega arith
few_numbers AlreadyRestored = omega arith
few_numbers BadSample = omega arith
few_numbers ShortScratch = omega arith

pub less_than_none : (n : ℕ) → pos 0 -ℤ pos n ≡ neg_ℤ (pos n)
less_than_none n = +ℤ_idl (neg_ℤ (pos n))
