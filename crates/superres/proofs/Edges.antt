-- Three runs, end to end, are a row's part with repeated edges.
use mathlib.Core.Path.{◌≡◌, ◌∙◌, ap}
use mathlib.Core.List.{List}
use Prim.Native.Nat.{ℕ, ◌+◌, ◌-◌, ◌<◌, min}
use native.Mathlib.Omega.{arith}
use lib.IntN.{ℤ, pos}
use lib.ListN.{get_or}
use Rattle.laws.specs.Runs.{stamp, stamp_same, stamp_next}
use Rattle.superres.specs.Scaled.{Cut}

-- the column of place k, in each run
in_left : (q0 last left at k : ℕ) → q0 + left ≡ at + 4 → at ≡ 0 → k < left → 0 ≡ min (q0 + k - 4) last
in_left q0 last left at k p q h = omega arith

in_middle : (q0 last left at mid k : ℕ) → q0 + left ≡ at + 4 → at + mid < last + 2 → k < mid → at + k ≡ min (q0 + (left + k) - 4) last
in_middle q0 last left at mid k p q h = omega arith

in_right : (q0 last left at mid k : ℕ) → q0 + left ≡ at + 4 → last < at + mid + 1 → last ≡ min (q0 + (left + mid + k) - 4) last
in_right q0 last left at mid k p q = omega arith

module _ (src : List ℤ) (from q0 n last left at mid right : ℕ) (c : Cut q0 n last left at mid right) where
  abbrev value : ℕ → ℤ
  value k = get_or src (from + min (q0 + k - 4) last) (pos 0)

  pub joined : (r r1 r2 r3 : List ℤ) → r1 ≡ stamp (λ _. get_or src from (pos 0)) 0 left r
      → r2 ≡ stamp (λ k. get_or src (from + at + k) (pos 0)) left mid r1
      → r3 ≡ stamp (λ _. get_or src (from + last) (pos 0)) (left + mid) right r2
      → r3 ≡ stamp (λ k. get_or src (from + min (q0 + k - 4) last) (pos 0)) 0 n r
  joined r r1 r2 r3 e1 e2 e3 =
      stamp_next value _ 0 (left + mid) right (left + mid) r r2 r3
      (stamp_next value _ 0 left mid left r r1 r2
      (e1 ∙ stamp_same _ value 0 left r (λ k h. ap (λ (j : ℕ). get_or src j (pos 0)) (omega (arith, in_left q0 last left at k c.begin (c.lead (omega arith)) h))))
      e2 (omega arith) (λ k h. ap (λ (j : ℕ). get_or src j (pos 0)) (omega (arith, in_middle q0 last left at mid k c.begin (omega (arith, c.inside)) h))))
      e3 (omega arith) (λ k h. ap (λ (j : ℕ). get_or src j (pos 0)) (omega (arith, in_right q0 last left at mid k c.begin (omega (arith, c.full (omega arith))))))
      ∙ ap (λ (j : ℕ). stamp value 0 j r) c.whole
