-- Two runs that one loop writes, the second after the first: each turn stores a value in both.
use mathlib.Core.Path.{◌≡◌, refl, sym, ◌∙◌, ap}
use mathlib.Core.List.{List}
use Prim.Native.Nat.{ℕ, ◌+◌, ◌≤◌, ◌<◌}
use native.Mathlib.Omega.{arith}
use lib.ListN.{get_or, set}
use Rattle.laws.specs.Runs.{stamp, stamp_set, stamp_more, stamp_outside}

module _ {A : Type 0} where
  module _ (f g : ℕ → A) (to sq : ℕ) (d : List A) where
    abbrev pub pair : ℕ → List A
    pair n = stamp g sq n (stamp f to n d)

    pub pair_none : d ≡ pair 0
    unfolding stamp
    pair_none = refl

    -- what lies before both is as it was
    pub pair_before : (n i : ℕ) (l : List A) (z : A) → l ≡ pair n → to ≤ sq → i < to → get_or l i z ≡ get_or d i z
    pair_before n i l z e h p =
        ap (λ (s : List A). get_or s i z) e ∙ stamp_outside g sq n _ i z (λ k q r. omega arith) ∙ stamp_outside f to n d i z (λ k q r. omega arith)

    pub pair_more : (n : ℕ) (l : List A) (i j : ℕ) (v w : A) → l ≡ pair n → to + n < sq → i ≡ to + n → j ≡ sq + n → v ≡ f n → w ≡ g n → set (set l i v) j w ≡ pair (n + 1)
    pair_more n l i j v w e h p q a b =
        stamp_more g sq n (stamp f to (n + 1) d) (set l i v) w j
        (ap (λ (s : List A). set s i v) e ∙ sym (stamp_set g sq n i v (stamp f to n d) (λ k r u. omega arith)) ∙ ap (stamp g sq n) (stamp_more f to n d (stamp f to n d) v i refl p a))
        q b
