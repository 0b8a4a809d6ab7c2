-- Every restored sample is in range, and so is what the Wiener filter holds between its passes.
use mathlib.Core.Bool.{Bool, true, false, cond}
use Prim.Native.Nat.{ℕ, ◌+◌, ◌-◌, ◌≤◌, zero-le, min, max}
use native.Mathlib.Omega.{arith}
use lib.IntN.{ℤ, pos, negsuc, neg_ℤ, ◌-ℤ◌}
use lib.Signed.{◌≤ℤ◌}
use Rattle.standard.specs.declared.Depth.{Depth}
use Rattle.standard.specs.declared.Depth.TheVariants.{Eight, Ten, Twelve}
use Rattle.standard.specs.declared.Taps.{Taps}
use Rattle.standard.specs.declared.Kind.{Kind}
use Rattle.standard.specs.declared.Kind.TheVariants.{None, Wiener, SelfGuided}
use lib.Dec.{ltb}
use Rattle.standard.specs.Wiener.{Grid, clip_mid, across, wiener}
use Rattle.standard.specs.Fetch.{Shape, fetch, restored_at, unit_at, window, restored}
use Rattle.standard.specs.Arithmetic.{clip_to}
use Rattle.standard.specs.Depths.{largest, offset, limit}
use Rattle.standard.specs.SelfGuided.{project, self_guided}
use Rattle.standard.specs.Stripes.{stripe_start, stripe_stop}
use Rattle.standard.proofs.Arms.{clip3_range}

pub clip_le : (t : ℕ) (z : ℤ) → clip_to t z ≤ t
unfolding clip_to
clip_le t (pos n) = omega arith
clip_le t (negsuc n) = zero-le

pub restored_range : (d : Depth) (y : ℕ) (u : Kind) (w : Grid) → w 3 3 ≤ largest d → restored d y u w ≤ largest d
unfolding restored wiener self_guided project
restored_range d y None w h = h
restored_range d y (Wiener t) w h = clip_le (largest d) _
restored_range d y (SelfGuided s) w h = clip_le (largest d) _

-- between the passes: −offset .. limit − offset
ordered : (d : Depth) → neg_ℤ (pos (offset d)) ≤ℤ (pos (limit d) -ℤ pos (offset d))
ordered Eight = record { le = tt }
ordered Ten = record { le = tt }
ordered Twelve = record { le = tt }

pub across_range : (d : Depth) (t : Taps) (w : Grid) (i : ℕ) → (neg_ℤ (pos (offset d)) ≤ℤ across d t w i) × (across d t w i ≤ℤ (pos (limit d) -ℤ pos (offset d)))
unfolding across clip_mid
across_range d t w i = clip3_range _ _ _ (ordered d)

-- a plane of legal samples
pub record Legal (m : ℕ) (P : Grid) : Type 0 where
  pub low : (y x : ℕ) → P y x ≤ m

cond_le : (b : Bool) {m p q : ℕ} → p ≤ m → q ≤ m → cond b p q ≤ m
cond_le true h k = h
cond_le false h k = k

fetch_range : (sy : ℕ) {m : ℕ} {D C : Grid} → Legal m D → Legal m C → (s y x : ℕ) → fetch sy D C s y x ≤ m
unfolding fetch
fetch_range sy l k s y x =
    cond_le (ltb y (stripe_start sy s)) (l.low (max y (stripe_start sy s - 2)) x)
    (cond_le (ltb y (stripe_stop sy s)) (k.low y x) (l.low (min y (stripe_stop sy s + 1)) x))

pub plane_range : (g : Shape) {D C : Grid} → Legal (largest g.depth) D → Legal (largest g.depth) C → (y x : ℕ) → restored_at g D C y x ≤ largest g.depth
unfolding restored_at window
plane_range g l k y x = restored_range g.depth y (unit_at g y x) _ (fetch_range g.sy l k _ _ _)
