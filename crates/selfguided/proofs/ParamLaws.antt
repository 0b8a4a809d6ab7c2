-- The code's table is Sgr_Params, tested once for the sixteen sets; a radius that is not 0 is 2 in pass 0 and 1 in pass 1.
use mathlib.Core.Path.{◌≡◌, subst}
use mathlib.Core.Bool.{Bool, true, false, not, ◌&&◌, ◌||◌}
use mathlib.Core.List.{List, [], ◌∷◌}
use Prim.Native.Nat.{ℕ, ◌≤◌, ◌<◌}
use native.Mathlib.Omega.{arith}
use lib.Dec.{T, eqb, leb, eqb→eq, leb→le}
use lib.ListN.{get_or}
use Rattle.laws.specs.Congruence.{ap2}
use Rattle.laws.specs.Lists.{all, all_below, all_at, below_at}
use Rattle.laws.specs.Tests.{and_l, and_r}
use Rattle.standard.specs.SelfGuided.{Passes, sgr, sgr_params}
use Rattle.std.specs.Prelude.{Option, Some, None}
use Rattle.selfguided.specs.declared.parameters.Params.{Params}
use Rattle.selfguided.specs.Parameters.{ParamsOf, radius_of, eps_of}

abbrev table : List (List (Option ℕ))
table =
    (Some 12 ∷ Some 4 ∷ []) ∷ (Some 15 ∷ Some 6 ∷ []) ∷ (Some 18 ∷ Some 8 ∷ []) ∷ (Some 21 ∷ Some 9 ∷ []) ∷
    (Some 24 ∷ Some 10 ∷ []) ∷ (Some 29 ∷ Some 11 ∷ []) ∷ (Some 36 ∷ Some 12 ∷ []) ∷ (Some 45 ∷ Some 13 ∷ []) ∷
    (Some 56 ∷ Some 14 ∷ []) ∷ (Some 68 ∷ Some 15 ∷ []) ∷ (None ∷ Some 5 ∷ []) ∷ (None ∷ Some 8 ∷ []) ∷
    (None ∷ Some 11 ∷ []) ∷ (None ∷ Some 14 ∷ []) ∷ (Some 30 ∷ None ∷ []) ∷ (Some 75 ∷ None ∷ []) ∷ []

abbrev params : ℕ → Params
params k = record { eps0 = get_or (get_or table k []) 0 None; eps1 = get_or (get_or table k []) 1 None }

abbrev first : ℕ → Bool
first k = eqb (radius_of 2 (params k).eps0) (sgr k).0

abbrev second : ℕ → Bool
second k = eqb (eps_of (params k).eps0) (sgr k).1

abbrev third : ℕ → Bool
third k = eqb (radius_of 1 (params k).eps1) (sgr k).2

abbrev fourth : ℕ → Bool
fourth k = eqb (eps_of (params k).eps1) (sgr k).3

tested : (k : ℕ) → k < 16 → T ((first k && second k) && (third k && fourth k))
unfolding all_below sgr sgr_params
tested k h = below_at 16 (λ k. (first k && second k) && (third k && fourth k)) tt k h

pub table_is : (k : ℕ) → k ≤ 15 → ParamsOf k (params k)
table_is k h =
    let t = tested k (omega arith) in
    let l = and_l (first k && second k) (third k && fourth k) t in
    let r = and_r (first k && second k) (third k && fourth k) t in
    record {
      r0_is = eqb→eq _ _ (and_l (first k) (second k) l);
      eps0_is = eqb→eq _ _ (and_r (first k) (second k) l);
      r1_is = eqb→eq _ _ (and_l (third k) (fourth k) r);
      eps1_is = eqb→eq _ _ (and_r (third k) (fourth k) r);
    }

-- ---- the radii and eps that there are
abbrev present : ℕ → ℕ → ℕ → Bool
present r p eps = eqb r 0 || (eqb r p && (leb 1 eps && leb eps 75))

abbrev legal : Passes → Bool
legal p = present p.0 2 p.1 && present p.2 1 p.3

legal_at : (set : ℕ) → T (legal (sgr set))
unfolding sgr sgr_params all
legal_at set = all_at legal (0, 0, 0, 0) tt sgr_params tt set

or_right : (a b : Bool) → T (a || b) → (T a → ⊥) → T b
or_right true b t f = absurd (f tt)
or_right false b t f = t

pub record Present (r p eps : ℕ) : Type 0 where
  pub radius : r ≡ p
  pub low : 1 ≤ eps
  pub high : eps ≤ 75

is_present : (r p eps : ℕ) → T (present r p eps) → (r ≡ 0 → ⊥) → Present r p eps
is_present r p eps t f =
    let u = or_right (eqb r 0) (eqb r p && (leb 1 eps && leb eps 75)) t (λ v. f (eqb→eq r 0 v)) in
    record {
      radius = eqb→eq r p (and_l (eqb r p) (leb 1 eps && leb eps 75) u);
      low = leb→le 1 eps (and_l (leb 1 eps) (leb eps 75) (and_r (eqb r p) (leb 1 eps && leb eps 75) u));
      high = leb→le eps 75 (and_r (leb 1 eps) (leb eps 75) (and_r (eqb r p) (leb 1 eps && leb eps 75) u));
    }

pub first_present : (set : ℕ) → ((sgr set).0 ≡ 0 → ⊥) → Present (sgr set).0 2 (sgr set).1
first_present set f = is_present (sgr set).0 2 (sgr set).1 (and_l (present (sgr set).0 2 (sgr set).1) (present (sgr set).2 1 (sgr set).3) (legal_at set)) f

pub second_present : (set : ℕ) → ((sgr set).2 ≡ 0 → ⊥) → Present (sgr set).2 1 (sgr set).3
second_present set f = is_present (sgr set).2 1 (sgr set).3 (and_r (present (sgr set).0 2 (sgr set).1) (present (sgr set).2 1 (sgr set).3) (legal_at set)) f

-- no set is without a filter
abbrev some : ℕ → Bool
some k = not (eqb (sgr k).0 0 && eqb (sgr k).2 0)

some_at : (k : ℕ) → k < 16 → T (some k)
unfolding all_below sgr sgr_params
some_at k h = below_at 16 some tt k h

pub not_both : (set : ℕ) → set ≤ 15 → (sgr set).0 ≡ 0 → (sgr set).2 ≡ 0 → ⊥
not_both set h p q = go (sgr set).0 (sgr set).2 p q (some_at set (omega arith))
  where
    go : (a b : ℕ) → a ≡ 0 → b ≡ 0 → T (not (eqb a 0 && eqb b 0)) → ⊥
    go a b p q t = subst T (ap2 (λ (a b : ℕ). not (eqb a 0 && eqb b 0)) p q) t
