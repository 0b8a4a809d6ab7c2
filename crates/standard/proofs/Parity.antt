-- The row counts only by being odd or even.
use mathlib.Core.Path.{◌≡◌, refl, ap}
use Prim.Native.Nat.{ℕ, zero, suc, ◌+◌, ◌*◌, ◌%◌}
use native.Mathlib.Nat.{mod-add-mod, mod-mod}
use Rattle.standard.specs.declared.Depth.{Depth}
use Rattle.standard.specs.declared.Kind.{Kind}
use Rattle.standard.specs.declared.Kind.TheVariants.{None, Wiener, SelfGuided}
use Rattle.standard.specs.Wiener.{Grid}
use Rattle.standard.specs.SelfGuided.{a2_at, b2_at, filtered, pass_of, project, self_guided, shift, weight, weighted}
use Rattle.laws.specs.Congruence.{ap2, ap3}
use Rattle.standard.specs.Fetch.{restored}
use Rattle.standard.specs.Arithmetic.{round_ℕ}
use Rattle.standard.proofs.Sums.{sum_same}

pub weight_parity : (pass y i j : ℕ) → weight pass y i j ≡ weight pass (y % 2) i j
unfolding weight
weight_parity zero y i j = rw (mod-add-mod y 2 i)
weight_parity (suc _) y i j = refl

pub shift_parity : (pass y : ℕ) → shift pass y ≡ shift pass (y % 2)
unfolding shift
shift_parity zero y = rw (mod-mod y 2)
shift_parity (suc _) y = refl

weighted_parity : (pass y : ℕ) (g : Grid) → weighted pass y g ≡ weighted pass (y % 2) g
unfolding weighted
weighted_parity pass y g = sum_same 3 _ _ (λ i p. sum_same 3 _ _ (λ j q. ap (λ n. n * g (i + 2) (j + 2)) (weight_parity pass y i j)))

pass_parity : (pass : ℕ) (d : Depth) (y r eps : ℕ) (w : Grid) → pass_of pass d y r eps w ≡ pass_of pass d (y % 2) r eps w
unfolding pass_of filtered
pass_parity pass d y zero eps w = refl
pass_parity pass d y (suc r) eps w =
    ap3 (λ s a b. round_ℕ (4 + s) (a * w 3 3 + b)) (shift_parity pass y) (weighted_parity pass y (a2_at d (suc r) eps w)) (weighted_parity pass y (b2_at d (suc r) eps w))

pub restored_parity : (d : Depth) (y : ℕ) (u : Kind) (w : Grid) → restored d y u w ≡ restored d (y % 2) u w
unfolding restored self_guided
restored_parity d y None w = refl
restored_parity d y (Wiener t) w = refl
restored_parity d y (SelfGuided s) w = ap2 (project d s.w0 s.w1 (16 * w 3 3)) (pass_parity 0 d y _ _ w) (pass_parity 1 d y _ _ w)
