-- The specification restores a plane block by block: for each 4 by 4 luma block it fills arrays A, B and F (§7.17.3) or `intermediate`
-- (§7.17.4) over the block and its border. Those arrays, as written there, hold the window's values: `per_block`.
use mathlib.Core.Path.{◌≡◌, refl, ap, ◌∙◌, sym}
use Prim.Native.Nat.{ℕ, zero, suc, ◌+◌, ◌-◌, ◌*◌, ◌/◌, ◌%◌, ◌^◌, ◌≤◌, ◌<◌, min}
use native.Mathlib.Omega.{arith}
use lib.IntN.{ℤ, ◌*ℤ◌}
use Rattle.laws.specs.Congruence.{ap2, ap3, ap4}
use Rattle.standard.specs.declared.Depth.{Depth}
use Rattle.standard.specs.declared.Taps.{Taps}
use Rattle.standard.specs.declared.Weights.{Weights}
use Rattle.standard.specs.declared.Kind.{Kind}
use Rattle.standard.specs.declared.Kind.TheVariants.{None, Wiener, SelfGuided}
use Rattle.standard.specs.Arithmetic.{round2, round_ℕ, clip_to, sum, sum_ℤ}
use Rattle.standard.specs.Depths.{r1, largest}
use Rattle.standard.specs.Wiener.{Grid, tap, across, wiener}
use Rattle.standard.specs.SelfGuided.{sgr, area, scale, one_over, box_sum, spread, a2_of, a2_at, b2_at, weight, shift, weighted, filtered, pass_of, project, self_guided}
use Rattle.standard.specs.Fetch.{restored, Shape, fetch, window, unit_at, restored_at}
use Rattle.standard.specs.Stripes.{stripe_of, block, block_of}
use Rattle.standard.proofs.Sums.{sum_same, sum_ℤ_same}
use Rattle.standard.proofs.Locality.{radius}
use Rattle.standard.proofs.Parity.{weight_parity, shift_parity}
use Rattle.standard.proofs.Stripes.{Halved, full, half, Sized, halved, size_of}
use Rattle.standard.proofs.Rectangles.{unit_row, unit_col, block_stripe}

-- ---- as the specification writes it
-- get_source_sample for stripe s, 3 rows and 3 columns further down and right: place v, u is row v − 3 and column u − 3, clamped
unfoldable pub padded : Shape → Grid → Grid → ℕ → Grid
padded g D C s v u = fetch g.sy D C s (min (v - 3) (g.height - 1)) (min (u - 3) (g.width - 1))

-- a block of stripe s whose first sample is y, x; P is `padded` there
module _ (d : Depth) (P : Grid) (y x : ℕ) where
  -- A[ i ][ j ] and B[ i ][ j ] for i = −1 .. h and j = −1 .. w, at i + 1 and j + 1 (§7.17.3)
  unfoldable pub block_a : ℕ → ℕ → Grid
  block_a r eps i j = a2_at d r eps P (y + i + 2) (x + j + 2)

  unfoldable pub block_b : ℕ → ℕ → Grid
  block_b r eps i j = b2_at d r eps P (y + i + 2) (x + j + 2)

  -- F[ i ][ j ], by the block's own row i (§7.17.3)
  unfoldable pub block_f : ℕ → ℕ → ℕ → Grid
  block_f pass r eps i j =
      round_ℕ (4 + shift pass i)
      (sum 3 (λ a. sum 3 (λ b. weight pass i a b * block_a r eps (i + a) (j + b))) * P (y + i + 3) (x + j + 3) + sum 3 (λ a. sum 3 (λ b. weight pass i a b * block_b r eps (i + a) (j + b))))

  -- intermediate[ r ][ c ] for r = 0 .. h + 5 (§7.17.4)
  unfoldable pub intermediate : Taps → ℕ → ℕ → ℤ
  intermediate t r c = across d t (λ v u. P v (x + c + u)) (y + r)

  unfoldable pub block_wiener : Taps → Grid
  block_wiener t i j = clip_to (largest d) (round2 (r1 d) (sum_ℤ 7 (λ k. tap t.v0 t.v1 t.v2 k *ℤ intermediate t (i + k) j)))

  unfoldable pub block_pass : ℕ → ℕ → ℕ → Grid
  block_pass pass zero eps i j = 16 * P (y + i + 3) (x + j + 3)
  block_pass pass (suc r) eps i j = block_f pass (suc r) eps i j

  unfoldable pub block_guided : Weights → Grid
  block_guided s i j =
      project d s.w0 s.w1 (16 * P (y + i + 3) (x + j + 3))
      (block_pass 0 (sgr s.set).0 (sgr s.set).1 i j) (block_pass 1 (sgr s.set).2 (sgr s.set).3 i j)

  unfoldable pub block_sample : Kind → Grid
  block_sample None i j = P (y + i + 3) (x + j + 3)
  block_sample (Wiener t) i j = block_wiener t i j
  block_sample (SelfGuided s) i j = block_guided s i j

-- ---- the window is a part of the padded plane
module _ (g : Shape) (D C : Grid) (y x : ℕ) where
  abbrev win : Grid
  win = window g D C y x

  abbrev pad : Grid
  pad = padded g D C (stripe_of g.sy y)

  pub window_padded : (i j : ℕ) → window g D C y x i j ≡ padded g D C (stripe_of g.sy y) (y + i) (x + j)
  unfolding window padded
  window_padded i j = refl

  box_shared : (f : ℕ → ℕ) (r i j : ℕ) → r ≤ i → r ≤ j → box_sum r (λ a b. f (win a b)) i j ≡ box_sum r (λ v u. f (pad v u)) (y + i) (x + j)
  unfolding box_sum
  box_shared f r i j p q = sum_same (2 * r + 1) _ _ (λ a h. sum_same (2 * r + 1) _ _ (λ b k.
      ap f (window_padded (i + a - r) (j + b - r) ∙ ap2 pad (omega arith) (omega arith))))

  -- so a2, b2 and the horizontal pass depend on the place and not on the sample: code computes them once
  pub a2_shared : (d : Depth) (r eps i j : ℕ) → r ≤ i → r ≤ j → a2_at d r eps win i j ≡ a2_at d r eps pad (y + i) (x + j)
  unfolding a2_at
  a2_shared d r eps i j p q = ap2 (λ a b. a2_of (round_ℕ 20 (spread d (area r) a b * scale r eps))) (box_shared (λ n. n * n) r i j p q) (box_shared (λ n. n) r i j p q)

  pub b2_shared : (d : Depth) (r eps i j : ℕ) → r ≤ i → r ≤ j → b2_at d r eps win i j ≡ b2_at d r eps pad (y + i) (x + j)
  unfolding b2_at
  b2_shared d r eps i j p q = ap2 (λ a b. round_ℕ 12 ((256 - a) * b * one_over (area r))) (a2_shared d r eps i j p q) (box_shared (λ n. n) r i j p q)

  pub across_shared : (d : Depth) (t : Taps) (i : ℕ) → across d t win i ≡ across d t (λ v j. pad v (x + j)) (y + i)
  unfolding across window padded
  across_shared d t i = refl

-- ---- row i and column j of a block that starts at even row v and column u: the sample y, x
pub record At (v u i j y x : ℕ) : Type 0 where
  pub even : v % 2 ≡ 0
  pub row : v + i ≡ y
  pub col : u + j ≡ x

module _ (g : Shape) (D C : Grid) {v u i j y x : ℕ} (at : At v u i j y x) where
  abbrev P : Grid
  P = padded g D C (stripe_of g.sy y)

  parity : i % 2 ≡ y % 2
  parity = omega (arith, at.even, at.row)

  same_weight : (pass a b : ℕ) → weight pass i a b ≡ weight pass y a b
  same_weight pass a b = weight_parity pass i a b ∙ ap (λ n. weight pass n a b) parity ∙ sym (weight_parity pass y a b)

  same_shift : (pass : ℕ) → shift pass i ≡ shift pass y
  same_shift pass = shift_parity pass i ∙ ap (shift pass) parity ∙ sym (shift_parity pass y)

  centre : P (v + i + 3) (u + j + 3) ≡ window g D C y x 3 3
  centre = ap2 P (omega (arith, at.row)) (omega (arith, at.col)) ∙ sym (window_padded g D C y x 3 3)

  same_weighted : (pass : ℕ) (f h : Grid) → ((a b : ℕ) → a < 3 → b < 3 → f (i + a) (j + b) ≡ h (a + 2) (b + 2)) →
      sum 3 (λ a. sum 3 (λ b. weight pass i a b * f (i + a) (j + b))) ≡ weighted pass y h
  unfolding weighted
  same_weighted pass f h e = sum_same 3 _ _ (λ a p. sum_same 3 _ _ (λ b q. ap2 ◌*◌ (same_weight pass a b) (e a b p q)))

  same_A : (d : Depth) (r eps a b : ℕ) → r ≤ 2 → block_a d P v u r eps (i + a) (j + b) ≡ a2_at d r eps (window g D C y x) (a + 2) (b + 2)
  unfolding block_a
  same_A d r eps a b h = ap2 (a2_at d r eps P) (omega (arith, at.row)) (omega (arith, at.col)) ∙ sym (a2_shared g D C y x d r eps (a + 2) (b + 2) (omega arith) (omega arith))

  same_B : (d : Depth) (r eps a b : ℕ) → r ≤ 2 → block_b d P v u r eps (i + a) (j + b) ≡ b2_at d r eps (window g D C y x) (a + 2) (b + 2)
  unfolding block_b
  same_B d r eps a b h = ap2 (b2_at d r eps P) (omega (arith, at.row)) (omega (arith, at.col)) ∙ sym (b2_shared g D C y x d r eps (a + 2) (b + 2) (omega arith) (omega arith))

  pub same_F : (d : Depth) (pass r eps : ℕ) → r ≤ 2 → block_f d P v u pass r eps i j ≡ filtered pass d y r eps (window g D C y x)
  unfolding block_f filtered
  same_F d pass r eps h = ap4 (λ s a w b. round_ℕ (4 + s) (a * w + b)) (same_shift pass)
      (same_weighted pass (block_a d P v u r eps) _ (λ a b _ _. same_A d r eps a b h)) centre (same_weighted pass (block_b d P v u r eps) _ (λ a b _ _. same_B d r eps a b h))

  same_pass : (d : Depth) (pass r eps : ℕ) → r ≤ 2 → block_pass d P v u pass r eps i j ≡ pass_of pass d y r eps (window g D C y x)
  unfolding block_pass pass_of
  same_pass d pass zero eps h = ap (λ n. 16 * n) centre
  same_pass d pass (suc r) eps h = same_F d pass (suc r) eps h

  pub same_intermediate : (d : Depth) (t : Taps) (k : ℕ) → intermediate d P v u t (i + k) j ≡ across d t (window g D C y x) k
  unfolding intermediate
  same_intermediate d t k = ap2 (λ c r. across d t (λ a b. P a (c + b)) r) at.col (omega (arith, at.row)) ∙ sym (across_shared g D C y x d t k)

  same_sample : (d : Depth) (kind : Kind) → block_sample d P v u kind i j ≡ restored d y kind (window g D C y x)
  unfolding block_sample block_wiener block_guided restored wiener self_guided
  same_sample d None = centre
  same_sample d (Wiener t) = ap (λ z. clip_to (largest d) (round2 (r1 d) z)) (sum_ℤ_same 7 _ _ (λ k p. ap (λ z. tap t.v0 t.v1 t.v2 k *ℤ z) (same_intermediate d t k)))
  same_sample d (SelfGuided s) = ap3 (project d s.w0 s.w1) (ap (λ n. 16 * n) centre) (same_pass d 0 _ _ (radius s.set).0) (same_pass d 1 _ _ (radius s.set).1)

-- ---- each sample of the plane, in the block that it lies in
abbrev pub block_row : ℕ → ℕ → ℕ
block_row sub y = block_of sub y * 4 / 2 ^ sub

start_even : {sub : ℕ} → Halved sub → (y : ℕ) → (block_row sub y % 2 ≡ 0) × (block_row sub y ≤ y)
unfolding block_of
start_even full y = (omega arith, omega arith)
start_even half y = (omega arith, omega arith)

-- what the specification writes at y, x: its block's arrays, the block's unit and the block's stripe
unfoldable pub written_at : ℕ → Shape → Grid → Grid → Grid
written_at sx g D C y x =
    let b = block sx g.sy g.size g.height g.width (block_of g.sy y) (block_of sx x) in
    block_sample g.depth (padded g D C ((block_of g.sy y * 4 + 8) / 64)) b.y b.x (g.unit b.unit_row b.unit_col) (y - b.y) (x - b.x)

pub per_block : {sx : ℕ} (g : Shape) → Halved sx → Sized g.sy g.size → (D C : Grid) (y x : ℕ) → written_at sx g D C y x ≡ restored_at g D C y x
unfolding written_at restored_at unit_at block
per_block {sx = sx} g kx k D C y x =
    ap2 (λ s e. block_sample g.depth (padded g D C s) (block_row g.sy y) (block_row sx x) e (y - block_row g.sy y) (x - block_row sx x)) (sym (block_stripe (halved k) y))
    (ap2 g.unit (sym (unit_row k sx g.height g.width y (block_of sx x))) (sym (unit_col kx (size_of k) g.sy g.height g.width x (block_of g.sy y))))
    ∙ same_sample g D C (record { even = (start_even (halved k) y).0; row = omega (arith, start_even (halved k) y); col = omega (arith, start_even kx x) }) g.depth _
