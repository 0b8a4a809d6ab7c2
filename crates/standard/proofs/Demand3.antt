-- Demand 3: damage stays in its stripe, over runs of the in-place definition. One invariant carries it: each sample is decided by its
-- stripe's mark. Set: what the standard gives from the plane that the run began with. Clear: that plane's own sample.
use mathlib.Core.Path.{◌≡◌, refl, ap, ◌∙◌, sym, subst}
use mathlib.Core.Logic.{◌⊎◌, inl, inr}
use mathlib.Core.Bool.{Bool, true, false, cond, not, ◌&&◌}
use mathlib.Core.List.{List, [], ◌∷◌}
use Prim.Native.Nat.{ℕ, zero, suc, ◌+◌, ◌-◌, ◌*◌, ◌/◌, ◌%◌, ◌≤◌, ◌<◌}
use native.Mathlib.Omega.{arith}
use lib.IntN.{ℤ, pos, nat_abs}
use lib.ListN.{length, get_or, set, replicate}
use lib.Seq.{get_or-set_same, get_or-set_other}
use lib.Dec.{T, leb, eqb, eqb→eq, eqb_refl, nleb→lt}
use Rattle.laws.specs.Congruence.{ap3}
use Rattle.laws.specs.Tests.{and_l, not_no, false_not}
use Rattle.laws.specs.Index.{cell_lt, cell_div, cell_mod}
use Rattle.laws.specs.Lists.{all, length_listing, at_listing, is_plane}
use Rattle.standard.specs.declared.Frame.{Frame}
use Rattle.standard.specs.Fetch.{restored, Shape, unit_at, restored_at}
use Rattle.standard.specs.Stripes.{stripes, stripe_of}
use Rattle.standard.specs.Planes.{grid, tabled, restored_slice, edge_row, captured_slice, edges, source_window, stripe_slice, marked}
use Rattle.standard.specs.Refusals.{sub_y_of, plane_height, plane_width, no12, stripe_tests}
use Rattle.standard.specs.Calls.{shape_of, Lent, StripeCall, stripe_call_number, stripe_done, after_stripe, run}
use Rattle.standard.proofs.Stripes.{Halved, stripe_below}
use Rattle.standard.proofs.Refusals.{stripe_table}
use Rattle.standard.proofs.Edges.{captured, Holds, Untouched, Clean, stripe_done_lem, undamaged}

-- ---- captured edge rows hold the deblocked plane's
digit_row : (s k : ℕ) → 1 ≤ s → k < 4 → ((4 * (s - 1) + k) / 4 + 1 ≡ s) × ((4 * (s - 1) + k) % 4 ≡ k)
digit_row s k p q = (omega arith, omega arith)

edge_inside : (s n w k x : ℕ) → 1 ≤ s → s < n → k < 4 → x < w → (4 * (s - 1) + k) * w + x < 4 * (n - 1) * w
edge_inside s n w k x p q r h = cell_lt (omega arith) h

pub slice_holds : (g : Shape) (D : List ℤ) (s : ℕ) → Holds g (grid g.width D) (edges g.width (captured_slice g.sy g.height g.width D)) s
unfolding edges captured_slice captured grid
slice_holds g D s = record { over = λ hs. record { edge = λ k x hn hk hx. go s k x hs hn hk hx }; under = record { edge = λ k x hn hk hx. go (suc s) k x (omega arith) hn hk hx } }
  where
    go : (s k x : ℕ) → 1 ≤ s → s < stripes g.sy g.height → k < 4 → x < g.width →
        nat_abs (get_or (captured_slice g.sy g.height g.width D) ((4 * (s - 1) + k) * g.width + x) (pos 0)) ≡ nat_abs (get_or D (edge_row g.sy g.height s k * g.width + x) (pos 0))
    go s k x hs hn hk hx =
        let e1 : ((4 * (s - 1) + k) * g.width + x) / g.width ≡ 4 * (s - 1) + k = cell_div hx in
        let e2 : ((4 * (s - 1) + k) * g.width + x) % g.width ≡ x = cell_mod (4 * (s - 1) + k) hx in
        let e3 : (4 * (s - 1) + k) / 4 + 1 ≡ s = (digit_row s k hs hk).0 in
        let e4 : (4 * (s - 1) + k) % 4 ≡ k = (digit_row s k hs hk).1 in
        ap nat_abs (at_listing (4 * (stripes g.sy g.height - 1) * g.width) _ (pos 0) _ (edge_inside s (stripes g.sy g.height) g.width k x hs hn hk hx)) ∙ rw (e1, e2, e3, e4)

-- ---- marks
marked_set : (M : List ℕ) (s t : ℕ) → s < length M → marked (set M s 1) t ≡ cond (eqb t s) true (marked M t)
marked_set M s t h = go (eqb t s) refl
  where
    go : (b : Bool) → eqb t s ≡ b → marked (set M s 1) t ≡ cond b true (marked M t)
    go true e = ap (λ n. eqb n 1) (ap (λ i. get_or (set M s 1) i 0) (eqb→eq t s (subst T (sym e) tt)) ∙ get_or-set_same M s 1 0 h)
    go false e = ap (λ n. eqb n 1) (get_or-set_other M s t 1 0 (λ q. subst T (ap (λ i. eqb i s) (sym q) ∙ e) (eqb_refl s)))

clear_at : (n t : ℕ) → marked (replicate n 0) t ≡ false
clear_at zero t = refl
clear_at (suc n) zero = refl
clear_at (suc n) (suc t) = clear_at n t

-- a call that is done had its mark there, and clear (numbers 12, 13, 14)
pub record Free (st : Lent) (s : ℕ) : Type 0 where
  pub clear : marked st.marks s ≡ false
  pub there : s < length st.marks

pub free : (c : StripeCall) (st : Lent) → stripe_call_number c st ≡ 0 → Free st c.stripe
unfolding stripe_call_number stripe_tests no12 all
free c st e =
    let n = stripes (sub_y_of c.frame) (plane_height c.frame) in
    let table = stripe_table c.frame c.stripe c.table _ _ st.marks _ _ _ c.scratch c.copy in
    let twelve : not (eqb (length st.marks) n && all (λ m. leb m 1) st.marks) ≡ false = table.complete e 9 in
    let one_each = eqb→eq (length st.marks) n (and_l (eqb (length st.marks) n) (all (λ m. leb m 1) st.marks) (not_no (eqb (length st.marks) n && all (λ m. leb m 1) st.marks) twelve)) in
    record { clear = table.complete e 11; there = omega (arith, one_each, nleb→lt n c.stripe (false_not (leb n c.stripe) (table.complete e 10))) }

-- the state that a run starts from: clear marks
abbrev pub begin : Shape → List ℤ → Lent
begin g B = record { plane = B; marks = replicate (stripes g.sy g.height) 0 }

-- the standard's sample for two planes that are slices
abbrev pub given : Shape → List ℤ → List ℤ → ℕ → ℕ → ℕ
given g D C y x = restored_at g (grid g.width D) (grid g.width C) y x

-- ---- one call that is done
module _ (g : Shape) (k : Halved g.sy) (D : List ℤ) where
  abbrev E : List ℤ
  E = captured_slice g.sy g.height g.width D

  pub record Kept (B : List ℤ) (st : Lent) : Type 0 where
    pub known : (y x : ℕ) → y < g.height → x < g.width →
        get_or st.plane (y * g.width + x) (pos 0) ≡ cond (marked st.marks (stripe_of g.sy y)) (pos (given g D B y x)) (get_or B (y * g.width + x) (pos 0))

  pub kept_begin : (B : List ℤ) → Kept B (begin g B)
  kept_begin B = record { known = λ y x hy hx. ap (λ b. cond b (pos (given g D B y x)) (get_or B (y * g.width + x) (pos 0))) (sym (clear_at (stripes g.sy g.height) (stripe_of g.sy y))) }

  at_done : (s : ℕ) (P : List ℤ) (y x : ℕ) → y < g.height → x < g.width →
      get_or (stripe_slice g E s P) (y * g.width + x) (pos 0)
      ≡ cond (eqb (stripe_of g.sy y) s) (pos (restored g.depth y (unit_at g y x) (source_window g (edges g.width E) (grid g.width P) s y x))) (get_or P (y * g.width + x) (pos 0))
  unfolding stripe_slice
  at_done s P y x hy hx =
      let e1 : (y * g.width + x) / g.width ≡ y = cell_div hx in
      let e2 : (y * g.width + x) % g.width ≡ x = cell_mod y hx in
      at_listing (g.height * g.width) _ (pos 0) _ (cell_lt hy hx) ∙ rw (e1, e2)

  pub kept_done : (B : List ℤ) (st : Lent) (s : ℕ) → Free st s → Kept B st → Kept B (record { plane = stripe_slice g E s st.plane; marks = set st.marks s 1 })
  unfolding grid
  kept_done B st s fr h = record {
    known = λ y x hy hx.
        at_done s st.plane y x hy hx
        ∙ go y x hy hx (eqb (stripe_of g.sy y) s) (eqb→eq (stripe_of g.sy y) s)
        ∙ ap (λ b. cond b (pos (given g D B y x)) (get_or B (y * g.width + x) (pos 0))) (sym (marked_set st.marks s (stripe_of g.sy y) fr.there));
  }
    where
      untouched : Untouched g (grid g.width B) (grid g.width st.plane) s
      untouched = record { same = λ y x hy hx e. ap nat_abs (h.known y x hy hx ∙ ap (λ b. cond b (pos (given g D B y x)) (get_or B (y * g.width + x) (pos 0))) (ap (marked st.marks) e ∙ fr.clear)) }

      go : (y x : ℕ) → y < g.height → x < g.width → (b : Bool) → (T b → stripe_of g.sy y ≡ s) →
          cond b (pos (restored g.depth y (unit_at g y x) (source_window g (edges g.width E) (grid g.width st.plane) s y x))) (get_or st.plane (y * g.width + x) (pos 0))
          ≡ cond (cond b true (marked st.marks (stripe_of g.sy y))) (pos (given g D B y x)) (get_or B (y * g.width + x) (pos 0))
      go y x hy hx true f = ap pos (stripe_done_lem g k (grid g.width D) (edges g.width E) (grid g.width B) (grid g.width st.plane) s y x hy hx (f tt) (slice_holds g D s) untouched)
      go y x hy hx false f = h.known y x hy hx

-- ---- runs. Frame, unit table and deblocked plane are fixed, the edge rows captured from it
module _ (f : Frame) (table D : List ℤ) where
  abbrev pub edges_of : List ℤ
  edges_of = captured_slice (sub_y_of f) (plane_height f) (plane_width f) D

  -- a call with these, of any stripe and with any scratch and copy
  pub record Ours (c : StripeCall) : Type 0 where
    pub same_frame : c.frame ≡ f
    pub same_table : c.table ≡ table
    pub same_edges : c.edges ≡ edges_of

  -- each call of the list is one of ours, or is refused, of whatever arguments
  abbrev pub Allowed : List StripeCall → Lent → Type 0
  Allowed [] st = Unit
  Allowed (c ∷ l) st = (Ours c ⊎ (stripe_call_number c st ≡ 0 → ⊥)) × Allowed l (after_stripe c st)

  module _ (k : Halved (sub_y_of f)) where
    kept_after : (B : List ℤ) (c : StripeCall) (st : Lent) → Ours c ⊎ (stripe_call_number c st ≡ 0 → ⊥) → Kept (shape_of f table) k D B st → Kept (shape_of f table) k D B (after_stripe c st)
    unfolding after_stripe stripe_done
    kept_after B c st ours h = go (eqb (stripe_call_number c st) 0) (eqb→eq (stripe_call_number c st) 0) ours
      where
        same : Ours c → stripe_slice (shape_of c.frame c.table) c.edges c.stripe st.plane ≡ stripe_slice (shape_of f table) edges_of c.stripe st.plane
        same o = ap3 (λ fr t e. stripe_slice (shape_of fr t) e c.stripe st.plane) o.same_frame o.same_table o.same_edges

        go : (b : Bool) → (T b → stripe_call_number c st ≡ 0) → Ours c ⊎ (stripe_call_number c st ≡ 0 → ⊥) → Kept (shape_of f table) k D B (cond b (stripe_done c st) st)
        go true n (inl o) = subst (λ P. Kept (shape_of f table) k D B (record { plane = P; marks = set st.marks c.stripe 1 })) (sym (same o)) (kept_done (shape_of f table) k D B st c.stripe (free c st (n tt)) h)
        go true n (inr r) = absurd (r (n tt))
        go false n o = h

    pub kept_run : (B : List ℤ) (l : List StripeCall) (st : Lent) → Allowed l st → Kept (shape_of f table) k D B st → Kept (shape_of f table) k D B (run l st)
    unfolding run
    kept_run B [] st a h = h
    kept_run B (c ∷ l) st a h = kept_run B l (after_stripe c st) a.1 (kept_after B c st a.0 h)

    abbrev ran : List StripeCall → List ℤ → Lent
    ran l B = run l (begin (shape_of f table) B)

    -- DEMAND 3. C is the CDEF plane before some of its samples were overwritten, B after: a restored sample with no overwritten one within
    -- 3 rows and 3 columns in its stripe is what the standard gives from the undamaged planes
    pub demand3 : (C B : List ℤ) (l : List StripeCall) → Allowed l (begin (shape_of f table) B) → (y x : ℕ) → y < plane_height f → x < plane_width f →
        Clean (shape_of f table) (grid (plane_width f) C) (grid (plane_width f) B) y x →
        marked (ran l B).marks (stripe_of (sub_y_of f) y) ≡ true →
        get_or (ran l B).plane (y * plane_width f + x) (pos 0) ≡ pos (given (shape_of f table) D C y x)
    demand3 C B l a y x hy hx c m =
        (kept_run B l (begin (shape_of f table) B) a (kept_begin (shape_of f table) k D B)).known y x hy hx
        ∙ ap (λ b. cond b (pos (given (shape_of f table) D B y x)) (get_or B (y * plane_width f + x) (pos 0))) m
        ∙ ap pos (undamaged (shape_of f table) k (grid (plane_width f) D) (edges (plane_width f) edges_of) (grid (plane_width f) C) (grid (plane_width f) B) y x hy hx c)

    -- so each sample of a restored stripe in which nothing was overwritten
    pub stripe_demand3 : (C B : List ℤ) (l : List StripeCall) → Allowed l (begin (shape_of f table) B) → (y x : ℕ) → y < plane_height f → x < plane_width f →
        Untouched (shape_of f table) (grid (plane_width f) C) (grid (plane_width f) B) (stripe_of (sub_y_of f) y) →
        marked (ran l B).marks (stripe_of (sub_y_of f) y) ≡ true →
        get_or (ran l B).plane (y * plane_width f + x) (pos 0) ≡ pos (given (shape_of f table) D C y x)
    stripe_demand3 C B l a y x hy hx u m = demand3 C B l a y x hy hx (record { clean = λ v w p q e _ _ _ _. u.same v w p q e }) m

    -- and a sample whose stripe is not marked is as it was
    pub unmarked : (B : List ℤ) (l : List StripeCall) → Allowed l (begin (shape_of f table) B) → (y x : ℕ) → y < plane_height f → x < plane_width f →
        marked (ran l B).marks (stripe_of (sub_y_of f) y) ≡ false →
        get_or (ran l B).plane (y * plane_width f + x) (pos 0) ≡ get_or B (y * plane_width f + x) (pos 0)
    unmarked B l a y x hy hx m =
        (kept_run B l (begin (shape_of f table) B) a (kept_begin (shape_of f table) k D B)).known y x hy hx
        ∙ ap (λ b. cond b (pos (given (shape_of f table) D B y x)) (get_or B (y * plane_width f + x) (pos 0))) m

    -- ---- with no damage, when every stripe is marked the plane is what whole-plane restore gives
    length_after : (c : StripeCall) (st : Lent) → Ours c ⊎ (stripe_call_number c st ≡ 0 → ⊥) → length st.plane ≡ plane_height f * plane_width f → length (after_stripe c st).plane ≡ plane_height f * plane_width f
    unfolding after_stripe stripe_done stripe_slice
    length_after c st ours e = go (eqb (stripe_call_number c st) 0) (eqb→eq (stripe_call_number c st) 0) ours
      where
        go : (b : Bool) → (T b → stripe_call_number c st ≡ 0) → Ours c ⊎ (stripe_call_number c st ≡ 0 → ⊥) → length (cond b (stripe_done c st) st).plane ≡ plane_height f * plane_width f
        go true n (inl o) = length_listing (plane_height c.frame * plane_width c.frame) _ ∙ ap (λ fr. plane_height fr * plane_width fr) o.same_frame
        go true n (inr r) = absurd (r (n tt))
        go false n o = e

    pub length_run : (l : List StripeCall) (st : Lent) → Allowed l st → length st.plane ≡ plane_height f * plane_width f → length (run l st).plane ≡ plane_height f * plane_width f
    unfolding run
    length_run [] st a e = e
    length_run (c ∷ l) st a e = length_run l (after_stripe c st) a.1 (length_after c st a.0 e)

    pub whole : (C : List ℤ) (l : List StripeCall) → Allowed l (begin (shape_of f table) C) → length C ≡ plane_height f * plane_width f →
        ((s : ℕ) → s < stripes (sub_y_of f) (plane_height f) → marked (ran l C).marks s ≡ true) →
        (ran l C).plane ≡ restored_slice (shape_of f table) D C
    unfolding restored_slice tabled
    whole C l a e m = is_plane _ (plane_width f) (plane_height f) (ran l C).plane (pos 0) (length_run l (begin (shape_of f table) C) a e)
        (λ y x hy hx. demand3 C C l a y x hy hx (record { clean = λ _ _ _ _ _ _ _ _ _. refl }) (m (stripe_of (sub_y_of f) y) (stripe_below k (plane_height f) y hy)))
