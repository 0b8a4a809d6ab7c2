-- Lists by their elements: `listing n f` is f 0, .. f (n − 1); `all` and `all_below` test every element, once over the whole list, and
-- `all_at`, `below_at` carry a passed test to each place.
use Rattle.std.specs.Prelude.{◌≡◌, refl, Bool, true, ◌&&◌, ◌⊎◌, List, [], ◌∷◌, ℕ, zero, suc, ◌+◌, ◌*◌, ◌/◌, ◌%◌, ◌<◌, length, get_or, T}
use Rattle.std.proofs.Common.{sym, ap, ◌∙◌, subst, inl, inr, arith, eq-or-lt_of_le, ext_get_or}
use Rattle.std.proofs.Math.Nat.{suc_inj}
use Rattle.laws.specs.Congruence.{ap2}
use Rattle.laws.specs.Tests.{and_l, and_r}
use Rattle.laws.specs.Index.{cell_lt, cell_of, of_lt, cell_div, cell_mod}
use Rattle.laws.specs.Runs.{stamp, stamp_length, stamp_inside}

-- f 0 ∷ .. ∷ f (n − 1)
unfoldable pub listing : {A : Type 0} → ℕ → (ℕ → A) → List A
listing zero f = []
listing (suc n) f = f 0 ∷ listing n (λ k. f (suc k))

-- h rows of w values, row after row
unfoldable pub plane : {A : Type 0} → (ℕ → ℕ → A) → ℕ → ℕ → List A
plane f w h = listing (h * w) (λ i. f (i / w) (i % w))

-- f holds of every element
unfoldable pub all : {A : Type 0} → (A → Bool) → List A → Bool
all f [] = true
all f (a ∷ l) = f a && all f l

-- f holds of 0, .. n − 1
unfoldable pub all_below : ℕ → (ℕ → Bool) → Bool
all_below zero f = true
all_below (suc n) f = all_below n f && f n

-- ---- a listing's elements
pub length_listing : {A : Type 0} (n : ℕ) (f : ℕ → A) → length (listing n f) ≡ n
unfolding listing
length_listing zero f = refl
length_listing (suc n) f = ap suc (length_listing n (λ k. f (suc k)))

pub at_listing : {A : Type 0} (n : ℕ) (f : ℕ → A) (z : A) (k : ℕ) → k < n → get_or (listing n f) k z ≡ f k
unfolding listing
at_listing zero f z k h = absurd (omega arith)
at_listing (suc n) f z zero h = refl
at_listing (suc n) f z (suc k) h = at_listing n (λ i. f (suc i)) z k (omega arith)

-- a loop that stores f 0, f 1, .. over a slice of n places leaves the listing
pub stamp_listing : {A : Type 0} (z : A) (n : ℕ) (f : ℕ → A) (d : List A) → length d ≡ n → stamp f 0 n d ≡ listing n f
stamp_listing z n f d e = ext_get_or z _ _ (stamp_length f 0 n d ∙ e ∙ sym (length_listing n f))
    (λ k h. ap (λ i. get_or (stamp f 0 n d) i z) (omega arith) ∙ stamp_inside f 0 n d k z (omega (arith, stamp_length f 0 n d)) (omega arith) ∙ sym (at_listing n f z k (omega (arith, stamp_length f 0 n d))))

-- ---- a plane's cells
pub plane_length : {A : Type 0} (f : ℕ → ℕ → A) (w h : ℕ) → length (plane f w h) ≡ h * w
unfolding plane
plane_length f w h = length_listing (h * w) _

pub plane_at : {A : Type 0} (f : ℕ → ℕ → A) (w h y x : ℕ) (z : A) → y < h → x < w → get_or (plane f w h) (y * w + x) z ≡ f y x
unfolding plane
plane_at f w h y x z p q = at_listing (h * w) _ z (y * w + x) (cell_lt p q) ∙ ap2 f (cell_div q) (cell_mod y q)

-- a list whose cells are f's is the plane of f
pub is_plane : {A : Type 0} (f : ℕ → ℕ → A) (w h : ℕ) (s : List A) (z : A) → length s ≡ h * w → ((y x : ℕ) → y < h → x < w → get_or s (y * w + x) z ≡ f y x) → s ≡ plane f w h
unfolding plane
is_plane f w h s z long at = ext_get_or z s (plane f w h) (long ∙ sym (length_listing (h * w) _)) (λ i p. same i (omega arith))
  where
    same : (i : ℕ) → i < h * w → get_or s i z ≡ get_or (plane f w h) i z
    same i p =
        let r : (i / w < h) × (i % w < w) = of_lt p in
        ap (λ (k : ℕ). get_or s k z) (cell_of i w) ∙ at (i / w) (i % w) r.0 r.1 ∙ sym (at_listing (h * w) _ z i p)

-- ---- a test that is passed by all holds at each place
-- the default past the end passes too
pub all_at : {A : Type 0} (f : A → Bool) (z : A) → T (f z) → (l : List A) → T (all f l) → (k : ℕ) → T (f (get_or l k z))
unfolding all
all_at f z h [] t k = h
all_at f z h (a ∷ l) t zero = and_l (f a) (all f l) t
all_at f z h (a ∷ l) t (suc k) = all_at f z h l (and_r (f a) (all f l) t) k

pub below_at : (n : ℕ) (f : ℕ → Bool) → T (all_below n f) → (k : ℕ) → k < n → T (f k)
unfolding all_below
below_at zero f t k h = absurd (omega arith)
below_at (suc n) f t k h = go (below_at n f (and_l (all_below n f) (f n) t) k) (eq-or-lt_of_le h)
  where
    go : (k < n → T (f k)) → (suc k ≡ suc n) ⊎ (suc k < suc n) → T (f k)
    go ih (inl e) = subst (λ m. T (f m)) (suc_inj (sym e)) (and_r (all_below n f) (f n) t)
    go ih (inr p) = ih (omega arith)
