-- A search's turns: the places so far pass, and a number 0 or 1 that says so.
use mathlib.Core.Path.{◌≡◌, refl, sym, ap, ◌∙◌, subst}
use mathlib.Core.List.{List}
use mathlib.Core.Bool.{Bool, true, false, ◌&&◌}
use Prim.Native.Nat.{ℕ, ◌+◌, ◌-◌, ◌^◌, ◌≤◌}
use native.Mathlib.Omega.{arith}
use native.Mathlib.Numerals.{add-one}
use lib.IntN.{ℤ, pos}
use lib.ListN.{length, get_or}
use lib.Dec.{T}
use lib.Bits.{bit_or}
use Rattle.laws.specs.Congruence.{ap2}
use Rattle.laws.specs.Lists.{all_below}
use Rattle.laws.specs.Tests.{and_both}
use Rattle.standard.specs.Units.{between}
use Rattle.units.specs.First.{failed, in_range, first_failing, first_outside, first_none}

pub none_yet : (f : ℕ → Bool) → T (all_below 0 f)
unfolding all_below
none_yet f = tt

pub one_more : (f : ℕ → Bool) (i : ℕ) → T (all_below i f) → f i ≡ true → T (all_below (i + 1) f)
unfolding all_below
one_more f i t e = rw add-one (and_both (all_below i f) (f i) t (subst T (sym e) tt))

-- the search has come to the end
pub all_passed : (n : ℕ) (f : ℕ → Bool) (i : ℕ) → i ≤ n → n ≤ i → T (all_below i f) → n ≡ first_failing n f
all_passed n f i p q t = sym (first_none n f (subst (λ k. T (all_below k f)) (omega arith) t))

-- ---- a test as a number
flag : (b : Bool) → failed b ≡ 0 → b ≡ true
flag true e = refl
flag false e = absurd (omega (arith, e))

unflag : (b : Bool) → (failed b ≡ 0 → ⊥) → b ≡ false
unflag true f = absurd (f refl)
unflag false f = refl

pub flag_passed : (b : Bool) (r : ℕ) → r ≡ failed b → r ≡ 0 → b ≡ true
flag_passed b r e z = flag b (sym e ∙ z)

pub flag_failed : (b : Bool) (r : ℕ) → r ≡ failed b → (r ≡ 0 → ⊥) → b ≡ false
flag_failed b r e f = unflag b (λ z. f (e ∙ z))

join : (a b : Bool) → bit_or (failed a) (failed b) ≡ failed (a && b)
join true true = refl
join true false = refl
join false true = refl
join false false = refl

pub flags_none : (f : ℕ → Bool) → 0 ≡ failed (all_below 0 f)
unfolding all_below
flags_none f = refl

pub flags_more : (f : ℕ → Bool) (i r s : ℕ) → r ≡ failed (all_below i f) → s ≡ failed (f i) → bit_or r s ≡ failed (all_below (i + 1) f)
unfolding all_below
flags_more f i r s e d = ap2 bit_or e d ∙ join (all_below i f) (f i) ∙ rw add-one

-- ---- samples
-- the answer for what is read of sample i
pub of_sample : (top : ℤ) (s : List ℤ) (i r : ℕ) (z : ℤ) → z ≡ get_or s i (pos 0) → r ≡ failed (between (pos 0) top z) → r ≡ failed (in_range top s i)
unfolding in_range
of_sample top s i r z e d = d ∙ ap (λ v. failed (between (pos 0) top v)) e

-- x: the largest sample as the code has it
pub outside_none : (depth : ℕ) (s : List ℤ) (x : ℤ) (r : ℕ) → x ≡ pos (2 ^ depth - 1) → r ≡ failed (all_below (length s) (in_range x s)) → r ≡ 0 → length s ≡ first_outside depth s
unfolding first_outside
outside_none depth s x r e d z =
    sym (first_none (length s) (in_range x s) (subst T (sym (flag_passed (all_below (length s) (in_range x s)) r d z)) tt)) ∙ ap (λ v. first_failing (length s) (in_range v s)) e

pub outside_found : (depth : ℕ) (s : List ℤ) (x : ℤ) (r : ℕ) → x ≡ pos (2 ^ depth - 1) → r ≡ first_failing (length s) (in_range x s) → r ≡ first_outside depth s
unfolding first_outside
outside_found depth s x r e d = d ∙ ap (λ v. first_failing (length s) (in_range v s)) e
