-- What the contracts give together: the way from a unit to its ten numbers and back, and that an entry's other numbers are not looked at.
use mathlib.Core.Path.{◌≡◌, refl, sym, ◌∙◌, ap, subst}
use mathlib.Core.Bool.{◌&&◌}
use mathlib.Core.List.{List}
use Prim.Native.Nat.{ℕ, ◌≤◌, ◌<◌}
use native.Mathlib.Omega.{arith}
use lib.IntN.{ℤ, pos, negsuc}
use lib.ListN.{length}
use lib.Signed.{◌≤ℤ◌, le_z}
use lib.Dec.{T, leb, ltb, leb→le, ltb→lt, le→leb}
use Rattle.laws.specs.Tests.{and_both}
use Rattle.standard.specs.declared.Taps.{Taps}
use Rattle.standard.specs.declared.Weights.{Weights}
use Rattle.standard.specs.declared.Kind.{Kind}
use Rattle.standard.specs.declared.Kind.TheVariants.{None, Wiener, SelfGuided}
use Rattle.standard.specs.Units.{field, between, legal_taps, legal_weights, legal_wiener, legal_guided, legal_entry, kind_of}
use Rattle.units.specs.Legal.{LegalTaps, LegalWeights, LegalKind}
use Rattle.units.specs.Entry.{taps_of, weights_of, entry_of}
use Rattle.units.proofs.Conditions.{entry_none, entry_wiener, entry_guided}
use Rattle.units.proofs.Legal.{kind_none, kind_wiener, kind_guided}
use Rattle.units.proofs.Entries.{same_taps, same_weights}

-- ---- unit to numbers to unit: the entry that `entry_of` gives is legal, and `unit_at` gives the unit again
pub entry_length : (k : Kind) → length (entry_of k) ≡ 10
unfolding entry_of
entry_length None = refl
entry_length (Wiener t) = refl
entry_length (SelfGuided s) = refl

pub entry_kind : (k : Kind) → kind_of (entry_of k) 0 ≡ k
unfolding entry_of kind_of field
entry_kind None = refl
entry_kind (Wiener t) = refl
entry_kind (SelfGuided s) = refl

in_range_lem : (lo hi z : ℤ) → lo ≤ℤ z → z ≤ℤ hi → T (between lo hi z)
in_range_lem lo hi z p q = and_both (le_z lo z) (le_z z hi) p.le q.le

three_legal : (plane : ℕ) (c0 c1 c2 : ℤ) → negsuc 4 ≤ℤ c0 → c0 ≤ℤ pos 10 → negsuc 22 ≤ℤ c1 → c1 ≤ℤ pos 8 → negsuc 16 ≤ℤ c2 → c2 ≤ℤ pos 46 → T (legal_taps plane c0 c1 c2)
unfolding legal_taps
three_legal plane c0 c1 c2 p p' q q' r r' =
    and_both (between (negsuc 4) (pos 10) c0 && between (negsuc 22) (pos 8) c1) (between (negsuc 16) (pos 46) c2)
    (and_both (between (negsuc 4) (pos 10) c0) (between (negsuc 22) (pos 8) c1) (in_range_lem (negsuc 4) (pos 10) c0 p p') (in_range_lem (negsuc 22) (pos 8) c1 q q'))
    (in_range_lem (negsuc 16) (pos 46) c2 r r')

taps_legal : (plane : ℕ) (t : Taps) → LegalTaps t → T (legal_wiener plane (entry_of (Wiener t)) 0)
unfolding entry_of field legal_wiener
taps_legal plane t l =
    and_both (legal_taps plane t.v0 t.v1 t.v2) (legal_taps plane t.h0 t.h1 t.h2)
    (three_legal plane t.v0 t.v1 t.v2 l.v0_low l.v0_high l.v1_low l.v1_high l.v2_low l.v2_high)
    (three_legal plane t.h0 t.h1 t.h2 l.h0_low l.h0_high l.h1_low l.h1_high l.h2_low l.h2_high)

weights_legal : (s : Weights) → LegalWeights s → T (legal_guided (entry_of (SelfGuided s)) 0)
unfolding entry_of field legal_guided legal_weights
weights_legal s l =
    and_both (between (pos 0) (pos 15) (pos s.set)) (between (negsuc 95) (pos 31) s.w0 && between (negsuc 31) (pos 95) s.w1)
    (in_range_lem (pos 0) (pos 15) (pos s.set) (record { le = le→leb 0 s.set (omega arith) }) (record { le = le→leb s.set 15 l.set_high }))
    (and_both (between (negsuc 95) (pos 31) s.w0) (between (negsuc 31) (pos 95) s.w1) (in_range_lem (negsuc 95) (pos 31) s.w0 l.w0_low l.w0_high)
    (in_range_lem (negsuc 31) (pos 95) s.w1 l.w1_low l.w1_high))

pub entry_legal : (plane : ℕ) (k : Kind) → LegalKind k → T (legal_entry plane (entry_of k) 0)
unfolding entry_of field
entry_legal plane None l = subst T (entry_none plane (entry_of None) 0 refl) tt
entry_legal plane (Wiener t) l = subst T (entry_wiener plane (entry_of (Wiener t)) 0 refl) (taps_legal plane t l)
entry_legal plane (SelfGuided s) l = subst T (entry_guided plane (entry_of (SelfGuided s)) 0 refl) (weights_legal s l)

-- ---- numbers to unit to numbers: the type and its own numbers come back
pub back_wiener : (t : List ℤ) (e : ℕ) → field t e 0 ≡ pos 1 → (field (entry_of (kind_of t e)) 0 0 ≡ field t e 0) × (taps_of (entry_of (kind_of t e)) 0 ≡ taps_of t e)
unfolding entry_of field
back_wiener t e p = (ap (λ k. field (entry_of k) 0 0) (kind_wiener t e p) ∙ sym p, ap (λ k. taps_of (entry_of k) 0) (kind_wiener t e p))

pub back_guided : (t : List ℤ) (e : ℕ) → field t e 0 ≡ pos 2 → (field (entry_of (kind_of t e)) 0 0 ≡ field t e 0) × (weights_of (entry_of (kind_of t e)) 0 ≡ weights_of t e)
unfolding entry_of field
back_guided t e p = (ap (λ k. field (entry_of k) 0 0) (kind_guided t e p) ∙ sym p, ap (λ k. weights_of (entry_of k) 0) (kind_guided t e p))

-- ---- a number that the type does not use is not looked at: entry f of u has the type and the own numbers of entry e of t
pub record Same (plane : ℕ) (t u : List ℤ) (e f : ℕ) : Type 0 where
  pub legal : legal_entry plane u f ≡ legal_entry plane t e
  pub kind : kind_of u f ≡ kind_of t e

pub none_alone : (plane : ℕ) (t u : List ℤ) (e f : ℕ) → field t e 0 ≡ pos 0 → field u f 0 ≡ field t e 0 → Same plane t u e f
none_alone plane t u e f p a = record { legal = sym (entry_none plane u f (a ∙ p)) ∙ entry_none plane t e p; kind = kind_none u f (a ∙ p) ∙ sym (kind_none t e p) }

pub wiener_alone : (plane : ℕ) (t u : List ℤ) (e f : ℕ) → field t e 0 ≡ pos 1 → ((k : ℕ) → k < 7 → field u f k ≡ field t e k) → Same plane t u e f
unfolding legal_wiener
wiener_alone plane t u e f p a =
    let own : (k : ℕ) → T (ltb k 7) → field u f k ≡ field t e k = λ k h. a k (ltb→lt k 7 h) in
    let q : field u f 0 ≡ pos 1 = own 0 tt ∙ p in
    let same : legal_wiener plane u f ≡ legal_wiener plane t e = rw (own 1 tt, own 2 tt, own 3 tt, own 4 tt, own 5 tt, own 6 tt) in
    record {
      legal = sym (entry_wiener plane u f q) ∙ same ∙ entry_wiener plane t e p;
      kind = kind_wiener u f q ∙ ap Wiener (same_taps (own 1 tt) (own 2 tt) (own 3 tt) (own 4 tt) (own 5 tt) (own 6 tt)) ∙ sym (kind_wiener t e p);
    }

pub guided_alone : (plane : ℕ) (t u : List ℤ) (e f : ℕ) → field t e 0 ≡ pos 2 → field u f 0 ≡ field t e 0 → ((k : ℕ) → 7 ≤ k → k < 10 → field u f k ≡ field t e k) → Same plane t u e f
unfolding legal_guided
guided_alone plane t u e f p z a =
    let own : (k : ℕ) → T (leb 7 k) → T (ltb k 10) → field u f k ≡ field t e k = λ k g h. a k (leb→le 7 k g) (ltb→lt k 10 h) in
    let same : legal_guided u f ≡ legal_guided t e = rw (own 7 tt tt, own 8 tt tt, own 9 tt tt) in
    record {
      legal = sym (entry_guided plane u f (z ∙ p)) ∙ same ∙ entry_guided plane t e p;
      kind = kind_guided u f (z ∙ p) ∙ ap SelfGuided (same_weights (own 7 tt tt) (own 8 tt tt) (own 9 tt tt)) ∙ sym (kind_guided t e p);
    }
