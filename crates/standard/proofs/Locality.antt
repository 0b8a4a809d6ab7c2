-- A restored sample is decided by the 49 samples of its window.
use mathlib.Core.Path.{◌≡◌, ap}
use mathlib.Core.Bool.{Bool, ◌&&◌}
use Prim.Native.Nat.{ℕ, zero, suc, ◌+◌, ◌-◌, ◌*◌, ◌≤◌}
use native.Mathlib.Omega.{arith}
use lib.Dec.{leb, leb→le}
use Rattle.standard.specs.declared.Depth.{Depth}
use Rattle.standard.specs.declared.Taps.{Taps}
use Rattle.standard.specs.declared.Weights.{Weights}
use Rattle.standard.specs.declared.Kind.{Kind}
use Rattle.standard.specs.declared.Kind.TheVariants.{None, Wiener, SelfGuided}
use Rattle.standard.specs.Wiener.{Grid, across, wiener}
use Rattle.standard.specs.SelfGuided.{Passes, a2_at, a2_of, area, b2_at, box_sum, filtered, one_over, pass_of, project, scale, self_guided, sgr, sgr_params, shift, spread, weight, weighted}
use Rattle.laws.specs.Lists.{all, all_at}
use Rattle.laws.specs.Tests.{and_l, and_r}
use Rattle.laws.specs.Congruence.{ap2, ap3}
use Rattle.standard.specs.Arithmetic.{sum_ℤ, round_ℕ}
use Rattle.standard.specs.Fetch.{restored}
use Rattle.standard.proofs.Sums.{sum_same}

-- ---- two windows that are equal on 0 .. 6 by 0 .. 6
pub record Agree (w v : Grid) : Type 0 where
  pub same : (i j : ℕ) → i ≤ 6 → j ≤ 6 → w i j ≡ v i j

-- the radii of the table
abbrev pub small_passes : Passes → Bool
small_passes p = leb p.0 2 && leb p.2 2

pub radius : (set : ℕ) → ((sgr set).0 ≤ 2) × ((sgr set).2 ≤ 2)
unfolding sgr sgr_params all
radius set =
    let t = all_at small_passes (0, 0, 0, 0) tt sgr_params tt set in
    (leb→le _ 2 (and_l (leb (sgr set).0 2) (leb (sgr set).2 2) t), leb→le _ 2 (and_r (leb (sgr set).0 2) (leb (sgr set).2 2) t))

module _ {w v : Grid} (e : Agree w v) where
  across_local : (d : Depth) (t : Taps) (i : ℕ) → i ≤ 6 → across d t w i ≡ across d t v i
  unfolding across sum_ℤ
  across_local d t i h = rw (e.same i 0 h (omega arith), e.same i 1 h (omega arith), e.same i 2 h (omega arith), e.same i 3 h (omega arith), e.same i 4 h (omega arith), e.same i 5 h (omega arith), e.same i 6 h (omega arith))

  wiener_local : (d : Depth) (t : Taps) → wiener d t w ≡ wiener d t v
  unfolding wiener sum_ℤ
  wiener_local d t = rw (across_local d t 0 (omega arith), across_local d t 1 (omega arith), across_local d t 2 (omega arith), across_local d t 3 (omega arith), across_local d t 4 (omega arith), across_local d t 5 (omega arith), across_local d t 6 (omega arith))

  box_local : (f : ℕ → ℕ) (r y x : ℕ) → r ≤ 2 → y ≤ 4 → x ≤ 4 → box_sum r (λ i j. f (w i j)) y x ≡ box_sum r (λ i j. f (v i j)) y x
  unfolding box_sum
  box_local f r y x hr hy hx = sum_same (2 * r + 1) _ _ (λ i p. sum_same (2 * r + 1) _ _ (λ j q. ap f (e.same _ _ (omega arith) (omega arith))))

  a2_local : (d : Depth) (r eps y x : ℕ) → r ≤ 2 → y ≤ 4 → x ≤ 4 → a2_at d r eps w y x ≡ a2_at d r eps v y x
  unfolding a2_at
  a2_local d r eps y x hr hy hx = ap2 (λ a b. a2_of (round_ℕ 20 (spread d (area r) a b * scale r eps))) (box_local (λ n. n * n) r y x hr hy hx) (box_local (λ n. n) r y x hr hy hx)

  b2_local : (d : Depth) (r eps y x : ℕ) → r ≤ 2 → y ≤ 4 → x ≤ 4 → b2_at d r eps w y x ≡ b2_at d r eps v y x
  unfolding b2_at
  b2_local d r eps y x hr hy hx = ap2 (λ a b. round_ℕ 12 ((256 - a) * b * one_over (area r))) (a2_local d r eps y x hr hy hx) (box_local (λ n. n) r y x hr hy hx)

pub weighted_same : (pass y : ℕ) (f g : Grid) → ((i j : ℕ) → i ≤ 4 → j ≤ 4 → f i j ≡ g i j) → weighted pass y f ≡ weighted pass y g
unfolding weighted
weighted_same pass y f g h = sum_same 3 _ _ (λ i p. sum_same 3 _ _ (λ j q. ap (λ n. weight pass y i j * n) (h _ _ (omega arith) (omega arith))))

module _ {w v : Grid} (e : Agree w v) where
  filtered_local : (pass : ℕ) (d : Depth) (y r eps : ℕ) → r ≤ 2 → filtered pass d y r eps w ≡ filtered pass d y r eps v
  unfolding filtered
  filtered_local pass d y r eps h =
      ap2 (λ a b. round_ℕ (4 + shift pass y) (a + b))
      (ap2 ◌*◌ (weighted_same pass y _ _ (λ i j p q. a2_local e d r eps i j h p q)) (e.same 3 3 (omega arith) (omega arith)))
      (weighted_same pass y _ _ (λ i j p q. b2_local e d r eps i j h p q))

  pass_local : (pass : ℕ) (d : Depth) (y r eps : ℕ) → r ≤ 2 → pass_of pass d y r eps w ≡ pass_of pass d y r eps v
  unfolding pass_of
  pass_local pass d y zero eps h = ap (λ n. 16 * n) (e.same 3 3 (omega arith) (omega arith))
  pass_local pass d y (suc r) eps h = filtered_local pass d y (suc r) eps h

  guided_local : (d : Depth) (y : ℕ) (s : Weights) → self_guided d y s w ≡ self_guided d y s v
  unfolding self_guided
  guided_local d y s =
      ap3 (project d s.w0 s.w1) (ap (λ n. 16 * n) (e.same 3 3 (omega arith) (omega arith)))
      (pass_local 0 d y _ _ (radius s.set).0) (pass_local 1 d y _ _ (radius s.set).1)

  pub restored_local : (d : Depth) (y : ℕ) (u : Kind) → restored d y u w ≡ restored d y u v
  unfolding restored
  restored_local d y None = e.same 3 3 (omega arith) (omega arith)
  restored_local d y (Wiener t) = wiener_local e d t
  restored_local d y (SelfGuided s) = guided_local d y s
