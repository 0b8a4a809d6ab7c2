-- The sum of a pass, in pairs of equal taps: each pair fits 16 bits, the whole is the seven-tap sum, and its size.
use mathlib.Core.Path.{◌≡◌, sym, ◌∙◌, ap, subst}
use mathlib.Core.List.{List, [], ◌∷◌, map}
use Prim.Native.Nat.{ℕ, ◌+◌, ◌*◌, ◌^◌, ◌<◌, ◌≤◌}
use native.Mathlib.Omega.{arith}
use native.Mathlib.Nat.{le_trans, mul-le-mul_right}
use lib.Dec.{lit≤}
use lib.IntN.{ℤ, pos, negsuc, nat_abs, ◌+ℤ◌, ◌*ℤ◌}
use lib.ListN.{length, get_or}
use lib.Signed.{mag}
use mir.Syntax.{w32}
use mir.Val.{hbits, to_z, of_z}
use Rattle.std.proofs.lemmas.List.{get_or-map}
use Rattle.laws.specs.Polynomial.{X, C, ◌⊹◌, ◌⋆◌, identity}
use Rattle.laws.specs.ReadBack.{returned}
use Rattle.laws.specs.SignedCode.{Expression, Var, Held, ◌⊕◌, ◌⊗◌, exact, bound_of, bounded}
use Rattle.laws.specs.Sizes.{abs_mag, abs_add, mag_abs}
use Rattle.standard.specs.Arithmetic.{sum_ℤ}
use Rattle.wiener.specs.Passes.{Narrow, Halves, SevenHalves, seven}

-- ---- two numbers of −16384 .. 16383
pub half_size : (x : ℤ) → mag x < 16384 → nat_abs x ≤ 16384
half_size x h = omega (arith, abs_mag x)

pub pair_fits : (x y : ℤ) → mag x < 16384 → mag y < 16384 → mag (x +ℤ y) < 32768
pair_fits (pos a) (pos b) p q = omega arith
pair_fits (pos a) (negsuc b) p q = omega (arith, mag_abs (pos a +ℤ negsuc b), abs_add (pos a) (negsuc b))
pair_fits (negsuc a) (pos b) p q = omega (arith, mag_abs (negsuc a +ℤ pos b), abs_add (negsuc a) (pos b))
pair_fits (negsuc a) (negsuc b) p q = omega arith

abbrev pub pair : (x y : ℤ) → mag x < 16384 → mag y < 16384 → Expression
pair x y p q = Var x 16384 (half_size x p) ⊕ Var y 16384 (half_size y q)

-- ---- the seven samples
pub seven_halves : {lo hi c st : ℕ} {s : List ℤ} → Halves lo hi s → lo ≤ c → c + 6 * st < hi → SevenHalves c st s
seven_halves {st = st} p u v = record { half = λ j h. p.half _ (omega arith) (omega (arith, mul-le-mul_right {m = j} {n = 6} st (omega arith))) }

pub halves_part : {lo hi : ℕ} {s : List ℤ} (a b : ℕ) → Halves lo hi s → lo ≤ a → b ≤ hi → Halves a b s
halves_part a b p u v = record { half = λ k q r. p.half k (omega arith) (omega arith) }

-- ---- the one ring law: pairs of equal taps are the seven-tap sum
pub pairs : (t0 t1 t2 t3 : ℤ) (x : ℕ → ℤ) →
    (x 0 +ℤ x 6) *ℤ t0 +ℤ (x 1 +ℤ x 5) *ℤ t1 +ℤ (x 2 +ℤ x 4) *ℤ t2 +ℤ x 3 *ℤ t3 ≡ sum_ℤ 7 (λ j. get_or (t0 ∷ t1 ∷ t2 ∷ t3 ∷ t2 ∷ t1 ∷ t0 ∷ []) j (pos 0) *ℤ x j)
unfolding sum_ℤ
pairs t0 t1 t2 t3 x =
    identity (t0 ∷ t1 ∷ t2 ∷ t3 ∷ x 0 ∷ x 1 ∷ x 2 ∷ x 3 ∷ x 4 ∷ x 5 ∷ x 6 ∷ [])
    ((X 4 ⊹ X 10) ⋆ X 0 ⊹ (X 5 ⊹ X 9) ⋆ X 1 ⊹ (X 6 ⊹ X 8) ⋆ X 2 ⊹ X 7 ⋆ X 3)
    (C (pos 0) ⊹ X 0 ⋆ X 4 ⊹ X 1 ⋆ X 5 ⊹ X 2 ⋆ X 6 ⊹ X 3 ⋆ X 7 ⊹ X 2 ⋆ X 8 ⊹ X 1 ⋆ X 9 ⊹ X 0 ⋆ X 10) tt

module _ {k c st : ℕ} {tr s : List ℤ} (p : SevenHalves c st s) (q : Narrow k tr) where
  abbrev x : ℕ → ℤ
  x j = get_or s (c + j * st) (pos 0)

  -- each pair by its tap
  abbrev pub product_0 : Expression
  product_0 = pair (x 0) (x 6) (p.half 0 (omega arith)) (p.half 6 (omega arith)) ⊗ Var (get_or tr k (pos 0)) 10 q.first

  abbrev pub product_1 : Expression
  product_1 = pair (x 1) (x 5) (p.half 1 (omega arith)) (p.half 5 (omega arith)) ⊗ Var (get_or tr (64 + k) (pos 0)) 23 q.second

  abbrev pub product_2 : Expression
  product_2 = pair (x 2) (x 4) (p.half 2 (omega arith)) (p.half 4 (omega arith)) ⊗ Var (get_or tr (128 + k) (pos 0)) 46 q.third

  abbrev pub product_3 : Expression
  product_3 = Var (x 3) 16384 (half_size (x 3) (p.half 3 (omega arith))) ⊗ Var (get_or tr (192 + k) (pos 0)) 286 q.fourth

  abbrev pub products : Expression
  products = product_0 ⊕ product_1 ⊕ product_2 ⊕ product_3

  pub products_are : exact products ≡ seven tr k s c st
  unfolding seven
  products_are = pairs _ _ _ _ x

  pub seven_small : nat_abs (seven tr k s c st) ≤ 16777216
  seven_small = subst (λ (z : ℤ). nat_abs z ≤ 16777216) products_are (le_trans (bounded products) (lit≤ tt))

-- ---- numbers of any type by their values
pub value_at : {X : Type 0} (f : X → ℤ) (l : List X) (i j : ℕ) {x : X} → x ≡ get_or l i x → i < length l → i ≡ j → f x ≡ get_or (map f l) j (pos 0)
value_at f l i j {x} e h p = ap f e ∙ sym (get_or-map f l i x (pos 0) h) ∙ ap (λ (n : ℕ). get_or (map f l) n (pos 0)) p

pub half_value : {X : Type 0} (f : X → ℤ) (l : List X) {c st : ℕ} → SevenHalves c st (map f l) → (i j : ℕ) {x : X} →
    x ≡ get_or l i x → i < length l → i ≡ c + j * st → j < 7 → mag (f x) < 16384
half_value f l p i j e h q r = subst (λ (z : ℤ). mag z < 16384) (sym (value_at f l i _ e h q)) (p.half j r)

-- what a call returned, where that is the value of an expression
abbrev pub called : (e : Expression) {r : ℤ} → mag r < 2 ^ hbits w32 → r ≡ exact e → Expression
called e {r} h p = Held (to_z w32 (of_z w32 r)) (exact e) (bound_of e) (returned w32 h p) (bounded e)
