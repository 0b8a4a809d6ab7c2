-- The table's numbers: a number is given only on its condition, 0 only where no condition holds, and it is the lowest that applies. Proved
-- once over lists of tests, then for each call's list by one computed test that its numbers ascend.
use mathlib.Core.Path.{◌≡◌, refl, sym, ◌∙◌, subst}
use mathlib.Core.Bool.{Bool, true, false, cond, ◌&&◌}
use mathlib.Core.List.{List, [], ◌∷◌}
use Prim.Native.Nat.{ℕ, zero, suc, ◌≤◌, ◌<◌}
use native.Mathlib.Omega.{arith}
use lib.IntN.{ℤ}
use lib.ListN.{get_or}
use lib.Dec.{T, ltb, ltb→lt}
use Rattle.laws.specs.Tests.{and_l, and_r}
use Rattle.standard.specs.declared.Frame.{Frame}
use Rattle.standard.specs.declared.Scaling.{Scaling}
use Rattle.standard.specs.Refusals.{first, plane_tests, capture_tests, stripe_tests, count_tests, rectangle_tests, upscale_tests, sample_tests}

-- the test at place k; past the end one that does not hold
abbrev pub nth : List (ℕ × Bool) → ℕ → ℕ × Bool
nth l k = get_or l k (0, false)

-- number n stands in the list, with a condition that holds
pub record Given (l : List (ℕ × Bool)) (n : ℕ) : Type 0 where
  pub place : ℕ
  pub number : (nth l place).0 ≡ n
  pub holds : (nth l place).1 ≡ true

pub record Lowest (l : List (ℕ × Bool)) : Type 0 where
  pub sound : 0 < first l → Given l (first l)
  pub complete : first l ≡ 0 → (k : ℕ) → (nth l k).1 ≡ false
  pub lowest : (k : ℕ) → (nth l k).1 ≡ true → (0 < first l) × (first l ≤ (nth l k).0)

-- a call's tests, one after the other: the first that holds gives the number
pub first_here : (n : ℕ) (b : Bool) (l : List (ℕ × Bool)) → b ≡ true → first ((n, b) ∷ l) ≡ n
unfolding first
first_here n b l e = rw e

pub first_past : (n : ℕ) (b : Bool) (l : List (ℕ × Bool)) → b ≡ false → first ((n, b) ∷ l) ≡ first l
unfolding first
first_past n b l e = rw e

-- numbers above m, ascending
abbrev pub ascending : ℕ → List (ℕ × Bool) → Bool
ascending m [] = true
ascending m (p ∷ l) = ltb m p.0 && ascending p.0 l

given_first : (l : List (ℕ × Bool)) → 0 < first l → Given l (first l)
unfolding first
given_first [] h = absurd (omega arith)
given_first (p ∷ l) h = go p.1 refl h (λ q. given_first l q)
  where
    go : (b : Bool) → p.1 ≡ b → 0 < cond b p.0 (first l) → (0 < first l → Given l (first l)) → Given (p ∷ l) (cond b p.0 (first l))
    go true e h rest = record { place = 0; number = refl; holds = e }
    go false e h rest = let g = rest h in record { place = suc g.place; number = g.number; holds = g.holds }

apart : {A : Type 0} {b : Bool} → b ≡ true → b ≡ false → A
apart p q = absurd (subst T (sym p ∙ q) tt)

-- an ascending list: its head, its tail, and every later number
head_up : (m : ℕ) (p : ℕ × Bool) (l : List (ℕ × Bool)) → T (ascending m (p ∷ l)) → m < p.0
head_up m p l t = ltb→lt m p.0 (and_l (ltb m p.0) (ascending p.0 l) t)

tail_up : (m : ℕ) (p : ℕ × Bool) (l : List (ℕ × Bool)) → T (ascending m (p ∷ l)) → T (ascending p.0 l)
tail_up m p l t = and_r (ltb m p.0) (ascending p.0 l) t

all_up : (m : ℕ) (l : List (ℕ × Bool)) → T (ascending m l) → (k : ℕ) → (nth l k).1 ≡ true → m < (nth l k).0
all_up m [] t k e = apart e refl
all_up m (p ∷ l) t zero e = head_up m p l t
all_up m (p ∷ l) t (suc k) e = omega (arith, head_up m p l t, all_up p.0 l (tail_up m p l t) k e)

first_lowest : (m : ℕ) (l : List (ℕ × Bool)) → T (ascending m l) → (k : ℕ) → (nth l k).1 ≡ true → (m < first l) × (first l ≤ (nth l k).0)
unfolding first
first_lowest m [] t k e = apart e refl
first_lowest m (p ∷ l) t k e = go p.1 refl k e (λ i q. first_lowest p.0 l (tail_up m p l t) i q)
  where
    go : (b : Bool) → p.1 ≡ b → (k : ℕ) → (nth (p ∷ l) k).1 ≡ true → ((i : ℕ) → (nth l i).1 ≡ true → (p.0 < first l) × (first l ≤ (nth l i).0)) →
        (m < cond b p.0 (first l)) × (cond b p.0 (first l) ≤ (nth (p ∷ l) k).0)
    go true f zero e rest = (head_up m p l t, omega arith)
    go true f (suc k) e rest = (head_up m p l t, omega (arith, all_up p.0 l (tail_up m p l t) k e))
    go false f zero e rest = apart e f
    go false f (suc k) e rest = (omega (arith, head_up m p l t, (rest k e).0), (rest k e).1)

none_holds : (l : List (ℕ × Bool)) → T (ascending 0 l) → first l ≡ 0 → (k : ℕ) → (nth l k).1 ≡ false
none_holds l t e k = go (nth l k).1 refl
  where
    go : (b : Bool) → (nth l k).1 ≡ b → b ≡ false
    go true f = absurd (omega (arith, (first_lowest 0 l t k f).0))
    go false f = refl

pub lowest_of : (l : List (ℕ × Bool)) → T (ascending 0 l) → Lowest l
lowest_of l t = record { sound = given_first l; complete = none_holds l t; lowest = first_lowest 0 l t }

-- ---- each call
pub plane_table : (f : Frame) (table D C : List ℤ) (out scratch : ℕ) → Lowest (plane_tests f table D C out scratch)
unfolding plane_tests
plane_table f table D C out scratch = lowest_of _ tt

pub capture_table : (f : Frame) (D : List ℤ) (edge : ℕ) → Lowest (capture_tests f D edge)
unfolding capture_tests
capture_table f D edge = lowest_of _ tt

pub stripe_table : (f : Frame) (s : ℕ) (table : List ℤ) (edge plane : ℕ) (marks : List ℕ) (own over under : List ℤ) (scratch copy : ℕ) →
    Lowest (stripe_tests f s table edge plane marks own over under scratch copy)
unfolding stripe_tests
stripe_table f s table edge plane marks own over under scratch copy = lowest_of _ tt

pub count_table : (f : Frame) → Lowest (count_tests f)
unfolding count_tests
count_table f = lowest_of _ tt

pub rectangle_table : (f : Frame) (i : ℕ) → Lowest (rectangle_tests f i)
unfolding rectangle_tests
rectangle_table f i = lowest_of _ tt

pub upscale_table : (s : Scaling) (input : List ℤ) (out : ℕ) → Lowest (upscale_tests s input out)
unfolding upscale_tests
upscale_table s input out = lowest_of _ tt

pub sample_table : (depth : ℕ) (entry : List ℤ) (bytes : List ℕ) → Lowest (sample_tests depth entry bytes)
unfolding sample_tests
sample_table depth entry bytes = lowest_of _ tt
