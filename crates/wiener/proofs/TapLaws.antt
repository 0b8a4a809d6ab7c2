-- The taps: their sizes from the legal ranges, and what a reader finds in the four rows.
use mathlib.Core.Path.{◌≡◌, refl, sym, ◌∙◌, ap, subst}
use mathlib.Core.List.{List, [], ◌∷◌}
use Prim.Native.Nat.{ℕ, zero, suc, ◌+◌, ◌<◌, ◌≤◌}
use native.Mathlib.Omega.{arith}
use native.Mathlib.Nat.{le_trans}
use lib.Dec.{lit≤}
use lib.IntN.{ℤ, pos, nat_abs}
use lib.ListN.{length, get_or}
use mir.Syntax.{w32}
use Rattle.laws.specs.Congruence.{ap4}
use Rattle.laws.specs.SignedCode.{Expression, Var, Lit, ◌⊝◌, ◌⊗◌, ◌⊕◌, read_as, bounded, is_exact}
use Rattle.laws.specs.Sizes.{abs_in}
use Rattle.laws.specs.Runs.{stamp, stamp_length, stamp_at, stamp_before}
use Rattle.laws.specs.Bounds.{Sized}
use Rattle.standard.specs.declared.Taps.{Taps}
use Rattle.standard.specs.Wiener.{middle, tap}
use Rattle.units.specs.Legal.{LegalTaps}
use Rattle.wiener.specs.Passes.{tap_rows, TapRows, Small, NarrowRows, row_tap}

-- ---- the sizes of three coefficients
pub small_vertical : {t : Taps} → LegalTaps t → Small t.v0 t.v1 t.v2
small_vertical p = record { first = abs_in p.v0_low p.v0_high; second = abs_in p.v1_low p.v1_high; third = abs_in p.v2_low p.v2_high }

pub small_horizontal : {t : Taps} → LegalTaps t → Small t.h0 t.h1 t.h2
small_horizontal p = record { first = abs_in p.h0_low p.h0_high; second = abs_in p.h1_low p.h1_high; third = abs_in p.h2_low p.h2_high }

-- 128 - 2 * (c0 + c1 + c2), as the code has it
abbrev pub middle_code : {c0 c1 c2 : ℤ} → Small c0 c1 c2 → Expression
middle_code {c0} {c1} {c2} p = Lit (pos 128) ⊝ Lit (pos 2) ⊗ (Var c0 10 p.first ⊕ Var c1 23 p.second ⊕ Var c2 46 p.third)

pub middle_small : {c0 c1 c2 : ℤ} → Small c0 c1 c2 → nat_abs (middle c0 c1 c2) ≤ 286
middle_small p = bounded (middle_code p)

-- the four taps that differ, as the code reads them
pub four_exact : {c0 c1 c2 : ℤ} (p : Small c0 c1 c2) → read_as w32 (Var c0 10 p.first) ∷ read_as w32 (Var c1 23 p.second) ∷ read_as w32 (Var c2 46 p.third) ∷ read_as w32 (middle_code p) ∷ [] ≡ c0 ∷ c1 ∷ c2 ∷ middle c0 c1 c2 ∷ []
four_exact {c0} {c1} {c2} p = ap4 (λ a b d m. a ∷ b ∷ d ∷ m ∷ []) (is_exact w32 (Var c0 10 p.first) tt) (is_exact w32 (Var c1 23 p.second) tt) (is_exact w32 (Var c2 46 p.third) tt) (is_exact w32 (middle_code p) tt)

-- they fit 16 bits
pub four_sized : {c0 c1 c2 : ℤ} {l : List ℤ} → Small c0 c1 c2 → l ≡ c0 ∷ c1 ∷ c2 ∷ middle c0 c1 c2 ∷ [] → Sized 32767 0 4 l
four_sized {c0} {c1} {c2} p e = record { size = λ k u v. subst (λ (s : List ℤ). nat_abs (get_or s k (pos 0)) ≤ 32767) (sym e) (each k v) }
  where
    each : (k : ℕ) → k < 4 → nat_abs (get_or (c0 ∷ c1 ∷ c2 ∷ middle c0 c1 c2 ∷ []) k (pos 0)) ≤ 32767
    each zero v = le_trans p.first (lit≤ tt)
    each (suc zero) v = le_trans p.second (lit≤ tt)
    each (suc (suc zero)) v = le_trans p.third (lit≤ tt)
    each (suc (suc (suc zero))) v = le_trans (middle_small p) (lit≤ tt)
    each (suc (suc (suc (suc k)))) v = absurd (omega arith)

-- ---- the rows
module _ (c0 c1 c2 m : ℤ) (n : ℕ) (tr l : List ℤ) (e : l ≡ tap_rows c0 c1 c2 m n tr) (p : n ≤ 64) (long : 256 ≤ length tr) where
  abbrev l1 : List ℤ
  l1 = stamp (λ _. c0) 0 n tr

  abbrev l2 : List ℤ
  l2 = stamp (λ _. c1) 64 n l1

  abbrev l3 : List ℤ
  l3 = stamp (λ _. c2) 128 n l2

  long1 : length l1 ≡ length tr
  long1 = stamp_length _ _ _ _

  long2 : length l2 ≡ length tr
  long2 = stamp_length _ _ _ _ ∙ long1

  long3 : length l3 ≡ length tr
  long3 = stamp_length _ _ _ _ ∙ long2

  last : l ≡ stamp (λ _. m) 192 n l3
  unfolding tap_rows
  last = e

  at_0 : (k : ℕ) → k < n → get_or l k (pos 0) ≡ c0
  at_0 k h =
      stamp_before _ 192 n l3 l k (pos 0) last (omega arith) ∙ stamp_before _ 128 n l2 l3 k (pos 0) refl (omega arith)
      ∙ stamp_before _ 64 n l1 l2 k (pos 0) refl (omega arith) ∙ stamp_at (λ _. c0) 0 n tr l1 k k (pos 0) refl (omega arith) h (omega arith)

  at_1 : (k : ℕ) → k < n → get_or l (64 + k) (pos 0) ≡ c1
  at_1 k h =
      stamp_before _ 192 n l3 l (64 + k) (pos 0) last (omega arith) ∙ stamp_before _ 128 n l2 l3 (64 + k) (pos 0) refl (omega arith)
      ∙ stamp_at (λ _. c1) 64 n l1 l2 k (64 + k) (pos 0) refl (omega (arith, long1)) h (omega arith)

  at_2 : (k : ℕ) → k < n → get_or l (128 + k) (pos 0) ≡ c2
  at_2 k h = stamp_before _ 192 n l3 l (128 + k) (pos 0) last (omega arith) ∙ stamp_at (λ _. c2) 128 n l2 l3 k (128 + k) (pos 0) refl (omega (arith, long2)) h (omega arith)

  at_3 : (k : ℕ) → k < n → get_or l (192 + k) (pos 0) ≡ m
  at_3 k h = stamp_at (λ _. m) 192 n l3 l k (192 + k) (pos 0) last (omega (arith, long3)) h (omega arith)

pub tap_rows_lem : (c0 c1 c2 : ℤ) (n : ℕ) (tr l : List ℤ) → l ≡ tap_rows c0 c1 c2 (middle c0 c1 c2) n tr → n ≤ 64 → 256 ≤ length tr → TapRows c0 c1 c2 n l
tap_rows_lem c0 c1 c2 n tr l e p long = record {
  first = at_0 c0 c1 c2 (middle c0 c1 c2) n tr l e p long;
  second = at_1 c0 c1 c2 (middle c0 c1 c2) n tr l e p long;
  third = at_2 c0 c1 c2 (middle c0 c1 c2) n tr l e p long;
  fourth = at_3 c0 c1 c2 (middle c0 c1 c2) n tr l e p long;
}

-- the same, of four taps in a list
pub tap_rows_of : {c0 c1 c2 : ℤ} {c : List ℤ} (n : ℕ) (tr l : List ℤ) → c ≡ c0 ∷ c1 ∷ c2 ∷ middle c0 c1 c2 ∷ [] →
    l ≡ tap_rows (get_or c 0 (pos 0)) (get_or c 1 (pos 0)) (get_or c 2 (pos 0)) (get_or c 3 (pos 0)) n tr → n ≤ 64 → length tr ≡ 256 → TapRows c0 c1 c2 n l
tap_rows_of {c0} {c1} {c2} n tr l e f p long =
    tap_rows_lem c0 c1 c2 n tr l (f ∙ ap (λ (s : List ℤ). tap_rows (get_or s 0 (pos 0)) (get_or s 1 (pos 0)) (get_or s 2 (pos 0)) (get_or s 3 (pos 0)) n tr) e) p (omega (arith, long))

pub narrow_rows : {c0 c1 c2 : ℤ} {n : ℕ} {tr : List ℤ} → Small c0 c1 c2 → TapRows c0 c1 c2 n tr → NarrowRows n tr
narrow_rows p r = record {
  here = λ k h. record {
    first = subst (λ (z : ℤ). nat_abs z ≤ 10) (sym (r.first k h)) p.first;
    second = subst (λ (z : ℤ). nat_abs z ≤ 23) (sym (r.second k h)) p.second;
    third = subst (λ (z : ℤ). nat_abs z ≤ 46) (sym (r.third k h)) p.third;
    fourth = subst (λ (z : ℤ). nat_abs z ≤ 286) (sym (r.fourth k h)) (middle_small p);
  };
}

pub narrow_part : {n : ℕ} {tr : List ℤ} (m : ℕ) → m ≤ n → NarrowRows n tr → NarrowRows m tr
narrow_part m p r = record { here = λ k h. r.here k (omega arith) }

-- so the taps at place k are the seven taps
pub row_tap_lem : {c0 c1 c2 : ℤ} {n : ℕ} {tr : List ℤ} → TapRows c0 c1 c2 n tr → (k j : ℕ) → k < n → row_tap tr k j ≡ tap c0 c1 c2 j
row_tap_lem r k j h = ap4 (λ a b c d. get_or (a ∷ b ∷ c ∷ d ∷ c ∷ b ∷ a ∷ []) j (pos 0)) (r.first k h) (r.second k h) (r.third k h) (r.fourth k h)
