-- Index laws of row-major planes: place y * w + x of a plane that is w wide.
use Rattle.std.specs.Prelude.{◌≡◌, List, ◌⊎◌, ℕ, zero, suc, ◌+◌, ◌*◌, ◌-◌, ◌/◌, ◌%◌, ◌<◌, ◌≤◌, length, get_or, take, drop}
use Rattle.std.proofs.Common.{sym, ◌∙◌, ap, inl, inr, arith, mul-le-mul, mul-le-mul_right, suc-mul, div-add-mod', mod-lt, mod-eq_of_lt, div-lt_iff_lt-mul, length-take, length-drop, get_or-take, get_or-drop}
use Rattle.std.proofs.Math.Decide.{dec_lt}
use Rattle.std.proofs.Math.Nat.{mul-add-div_right, div-eq_of_lt, mul-add-mod_self_right}

-- two numbers, in order
pub lt_or_le : (a b : ℕ) → (a < b) ⊎ (b ≤ a)
lt_or_le a b = pick (dec_lt a b)
  where
    pick : Dec (a < b) → (a < b) ⊎ (b ≤ a)
    pick (yes p) = inl p
    pick (no q) = inr (omega arith)

-- a row lies within the plane
pub row_le : {y h : ℕ} (w : ℕ) → y < h → y * w + w ≤ h * w
row_le {y} w p = omega (arith, mul-le-mul_right w p, suc-mul y w)

-- a cell lies within the plane
pub cell_lt : {y x h w : ℕ} → y < h → x < w → y * w + x < h * w
cell_lt {w = w} p q = omega (arith, row_le w p)

-- a product of bounded numbers is bounded: `mul_small 16384 16384 p q : y * w ≤ 268435456`
pub mul_small : {y w : ℕ} (a b : ℕ) → y ≤ a → w ≤ b → y * w ≤ a * b
mul_small a b p q = mul-le-mul p q

-- a cell's coordinates are determined by its index
pub cell_div : {y x w : ℕ} → x < w → (y * w + x) / w ≡ y
cell_div {y} {x} {w} p = omega (arith, mul-add-div_right {m = w} (omega arith) y x, div-eq_of_lt p)

pub cell_row : (y y' : ℕ) {x x' w : ℕ} → x < w → x' < w → y * w + x ≡ y' * w + x' → y ≡ y'
cell_row y y' {w = w} p q e = sym (cell_div p) ∙ ap (λ (i : ℕ). i / w) e ∙ cell_div q

pub cell_col : (y y' : ℕ) {x x' w : ℕ} → x < w → x' < w → y * w + x ≡ y' * w + x' → x ≡ x'
cell_col y y' {w = w} p q e = omega (arith, ap (λ (k : ℕ). k * w) (cell_row y y' p q e))

-- every index of the plane is a cell of it
pub cell_of : (i w : ℕ) → i ≡ i / w * w + i % w
cell_of i w = sym (div-add-mod' i w)

pub of_lt : {i h w : ℕ} → i < h * w → (i / w < h) × (i % w < w)
of_lt {i} {h} {w} p = ((div-lt_iff_lt-mul (wide w p)).1 p, mod-lt i (wide w p))
  where
    wide : (w : ℕ) → i < h * w → zero < w
    wide zero q = omega arith
    wide (suc v) q = omega arith

-- a part's elements, in terms of the whole
pub part_at : {A : Type 0} (a n : ℕ) (s : List A) (x : ℕ) (z : A) → x < n → get_or (take n (drop a s)) x z ≡ get_or s (a + x) z
part_at a n s x z h = get_or-take n (drop a s) x z h ∙ get_or-drop a s x z

-- a lent part `&d[a..a + n]` has n elements
pub part_long : {A : Type 0} (a n : ℕ) (d : List A) → a + n ≤ length d → length (take (a + n - a) (drop a d)) ≡ n
part_long a n d h = length-take (a + n - a) (drop a d) ∙ omega (arith, length-drop a d)

pub cell_mod : (y : ℕ) {x w : ℕ} → x < w → (y * w + x) % w ≡ x
cell_mod y {x} {w} p = mul-add-mod_self_right y w x ∙ mod-eq_of_lt p
