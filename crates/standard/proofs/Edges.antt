-- Captured edge rows stand for the deblocked plane, so one stripe restored from them gives the standard's samples; and a sample with no
-- overwritten one within 3 rows and 3 columns in its stripe does not see the damage. Both by locality: the two windows agree.
use mathlib.Core.Path.{◌≡◌, refl, ap, ◌∙◌, sym, subst}
use mathlib.Core.Bool.{Bool, true, false, cond}
use Prim.Native.Nat.{ℕ, suc, ◌+◌, ◌-◌, ◌≤◌, ◌<◌, min, max}
use native.Mathlib.Omega.{arith}
use lib.Dec.{ltb}
use Rattle.standard.specs.Wiener.{Grid}
use Rattle.standard.proofs.Stripes.{Halved, Span, full, half, next, span, stripe_exists, stripe_is}
use Rattle.standard.specs.Fetch.{Shape, fetch, near, restored_at, unit_at, window, restored}
use Rattle.laws.specs.Tests.{Test, below, above, test}
use Rattle.standard.specs.Planes.{edge_row, source, source_window}
use Rattle.standard.proofs.Locality.{restored_local}
use Rattle.standard.specs.Stripes.{stripe_of, stripe_start, stripe_stop, stripes}

-- boundary s ≥ 1, k in 0 .. 3, column
abbrev pub Edges : Type 0
Edges = ℕ → ℕ → ℕ → ℕ

-- ---- the edge rows stand for the deblocked plane
-- stripe 0 has no row above it, and any other starts past row 2
start_two : {sy : ℕ} → Halved sy → (s : ℕ) → 0 < stripe_start sy s → 2 ≤ stripe_start sy s
unfolding stripe_start
start_two full s p = omega arith
start_two half s p = omega arith

back : (b h m : ℕ) → 2 ≤ b → b - 2 ≤ m → m < h → min (b + (m - (b - 2)) - 2) (h - 1) ≡ m
back b h m p q r = omega arith

edge_above : {sy : ℕ} → Halved sy → (h s y : ℕ) → stripe_start sy s < h → y < stripe_start sy s → edge_row sy h s (max y (stripe_start sy s - 2) - (stripe_start sy s - 2)) ≡ max y (stripe_start sy s - 2)
unfolding edge_row
edge_above {sy = sy} k h s y p q = back (stripe_start sy s) h (max y (stripe_start sy s - 2)) (start_two k s (omega arith)) (omega arith) (omega arith)

edge_below : {sy : ℕ} → Halved sy → (h s y : ℕ) → y < h → stripe_stop sy s ≤ y → edge_row sy h (suc s) (2 + (min y (stripe_stop sy s + 1) - stripe_stop sy s)) ≡ min y (stripe_stop sy s + 1)
unfolding edge_row stripe_start stripe_stop
edge_below full h s y p q = omega arith
edge_below half h s y p q = omega arith

start_some : {sy : ℕ} → Halved sy → (s : ℕ) → 0 < stripe_start sy s → 1 ≤ s
unfolding stripe_start
start_some full s p = omega arith
start_some half s p = omega arith

-- the edge row k of boundary s of the deblocked plane
unfoldable pub captured : Shape → Grid → Edges
captured g D s k x = D (edge_row g.sy g.height s k) x

-- E holds boundary s of D: nothing is asked where that boundary does not exist
pub record HoldsAt (g : Shape) (D : Grid) (E : Edges) (s : ℕ) : Type 0 where
  pub edge : (k x : ℕ) → s < stripes g.sy g.height → k < 4 → x < g.width → E s k x ≡ captured g D s k x

-- the two boundaries that stripe s reads
pub record Holds (g : Shape) (D : Grid) (E : Edges) (s : ℕ) : Type 0 where
  pub over : 1 ≤ s → HoldsAt g D E s
  pub under : HoldsAt g D E (suc s)

-- stripe s reads the same from P and the edge rows as from D and C, where P is C in that stripe
reads : (g : Shape) → Halved g.sy → (D C P : Grid) (E : Edges) (s : ℕ) → Holds g D E s → (y x : ℕ) → stripe_start g.sy s < g.height → y < g.height → x < g.width →
    (Span g.sy s y → P y x ≡ C y x) → source g.sy E P s y x ≡ fetch g.sy D C s y x
unfolding source fetch captured
reads g k D C P E s held y x hs hy hx eq = go (ltb y (stripe_start g.sy s)) (test y (stripe_start g.sy s)) (ltb y (stripe_stop g.sy s)) (test y (stripe_stop g.sy s))
  where
    go : (a : Bool) → Test y (stripe_start g.sy s) a → (b : Bool) → Test y (stripe_stop g.sy s) b →
        cond a (E s (max y (stripe_start g.sy s - 2) - (stripe_start g.sy s - 2)) x)
        (cond b (P y x) (E (suc s) (2 + (min y (stripe_stop g.sy s + 1) - stripe_stop g.sy s)) x))
        ≡ cond a (D (max y (stripe_start g.sy s - 2)) x) (cond b (C y x) (D (min y (stripe_stop g.sy s + 1)) x))
    go true (below p) b t =
        (held.over (start_some k s (omega arith))).edge _ x ((stripe_exists k g.height s (omega arith)).1 hs) (omega arith) hx
        ∙ ap (λ r. D r x) (edge_above k g.height s y hs p)
    go false (above p) true (below q) = eq (record { from = p; to = q })
    go false (above p) false (above q) =
        held.under.edge _ x ((stripe_exists k g.height (suc s) (omega arith)).1 (omega (arith, next k s))) (omega arith) hx
        ∙ ap (λ r. D r x) (edge_below k g.height s y hy q)

-- the same for the fetch from two CDEF planes
fetch_same : (sy : ℕ) (D C P : Grid) (s y x : ℕ) → (Span sy s y → P y x ≡ C y x) → fetch sy D P s y x ≡ fetch sy D C s y x
unfolding fetch
fetch_same sy D C P s y x eq = go (ltb y (stripe_start sy s)) (test y (stripe_start sy s)) (ltb y (stripe_stop sy s)) (test y (stripe_stop sy s))
  where
    go : (a : Bool) → Test y (stripe_start sy s) a → (b : Bool) → Test y (stripe_stop sy s) b →
        cond a (D (max y (stripe_start sy s - 2)) x) (cond b (P y x) (D (min y (stripe_stop sy s + 1)) x))
        ≡ cond a (D (max y (stripe_start sy s - 2)) x) (cond b (C y x) (D (min y (stripe_stop sy s + 1)) x))
    go true t b u = refl
    go false (above p) true (below q) = eq (record { from = p; to = q })
    go false (above p) false (above q) = refl

-- P is C in the plane's part of stripe s
pub record Untouched (g : Shape) (C P : Grid) (s : ℕ) : Type 0 where
  pub same : (y x : ℕ) → y < g.height → x < g.width → stripe_of g.sy y ≡ s → P y x ≡ C y x

-- C is the undamaged CDEF plane, B what the run starts from; no overwritten sample within 3 rows and 3 columns in the stripe of y
pub record Clean (g : Shape) (C B : Grid) (y x : ℕ) : Type 0 where
  pub clean : (v u : ℕ) → v < g.height → u < g.width → stripe_of g.sy v ≡ stripe_of g.sy y → v ≤ y + 3 → y ≤ v + 3 → u ≤ x + 3 → x ≤ u + 3 → B v u ≡ C v u

module _ (g : Shape) (k : Halved g.sy) (D : Grid) (E : Edges) where
  -- one done call gives the stripe's samples
  entry : (C P : Grid) (y x i j : ℕ) → y < g.height → x < g.width → Holds g D E (stripe_of g.sy y) → Untouched g C P (stripe_of g.sy y) →
      source_window g E P (stripe_of g.sy y) y x i j ≡ window g D C y x i j
  unfolding window source_window
  entry C P y x i j hy hx held u =
      reads g k D C P E (stripe_of g.sy y) held (near g.height y i) (near g.width x j) (omega (arith, (span k y).from)) (omega arith) (omega arith)
      (λ z. u.same (near g.height y i) (near g.width x j) (omega arith) (omega arith) (stripe_is k z))

  pub stripe_done_lem : (C P : Grid) (s y x : ℕ) → y < g.height → x < g.width → stripe_of g.sy y ≡ s → Holds g D E s → Untouched g C P s →
      restored g.depth y (unit_at g y x) (source_window g E P s y x) ≡ restored_at g D C y x
  unfolding restored_at
  stripe_done_lem C P s y x hy hx e held u =
      ap (λ t. restored g.depth y (unit_at g y x) (source_window g E P t y x)) (sym e)
      ∙ restored_local (record { same = λ i j p q. entry C P y x i j hy hx (subst (Holds g D E) (sym e) held) (subst (λ t. Untouched g C P t) (sym e) u) }) g.depth y (unit_at g y x)

  pub undamaged : (C B : Grid) (y x : ℕ) → y < g.height → x < g.width → Clean g C B y x → restored_at g D B y x ≡ restored_at g D C y x
  unfolding restored_at window
  undamaged C B y x hy hx c = restored_local (record {
    same = λ i j p q.
        fetch_same g.sy D C B (stripe_of g.sy y) (near g.height y i) (near g.width x j) (λ z. c.clean (near g.height y i) (near g.width x j) (omega arith) (omega arith) (stripe_is k z) (omega arith) (omega arith) (omega arith) (omega arith));
  })
      g.depth y (unit_at g y x)
