-- The in-place run of a job whose plane the whole-plane call takes: capture and every stripe's call are done, and the plane that they leave
-- is the whole-plane result.
use mathlib.Core.Path.{◌≡◌, refl, sym, ap, ◌∙◌, subst}
use mathlib.Core.Bool.{Bool, true, false, cond, not, ◌&&◌, ◌||◌}
use mathlib.Core.List.{List, [], ◌∷◌, ◌++◌}
use mathlib.Core.Logic.{◌⊎◌, inl, inr}
use Prim.Native.Nat.{ℕ, zero, suc, ◌+◌, ◌-◌, ◌*◌, ◌/◌, ◌%◌, ◌^◌, ◌≤◌, ◌<◌, min}
use native.Mathlib.Omega.{arith}
use native.Mathlib.Numerals.{add-one}
use borrow.Author.Tests.{eq-eqb, le-ltb, lt-leb}
use lib.Dec.{T, eqb, ltb, leb, leb→le, le→leb}
use lib.IntN.{ℤ, pos, negsuc, nat_abs}
use lib.ListN.{length, get_or, take, drop, replicate, length-replicate}
use Rattle.laws.specs.Congruence.{ap2, ap3}
use Rattle.laws.specs.Index.{lt_or_le, cell_of, of_lt, mul_small}
use Rattle.laws.specs.Lists.{listing, length_listing, all, all_at}
use Rattle.laws.specs.Runs.{stamp, stamp_none, stamp_more, stamp_length, stamp_at, stamp_after}
use Rattle.laws.specs.Tests.{and_l, and_r, and_both, not_no, is_true, or_no}
use Rattle.standard.specs.declared.Frame.{Frame}
use Rattle.std.specs.Prelude.{Result}
use Rattle.standard.specs.declared.Refusal.{Refusal}
use Rattle.standard.specs.Depths.{depth_of, largest}
use Rattle.standard.specs.Arithmetic.{round_ℕ}
use Rattle.standard.specs.Units.{between}
use Rattle.standard.specs.Fetch.{restored_at, changed}
use Rattle.standard.specs.Stripes.{stripes, stripe_of, stripe_start, stripe_stop}
use Rattle.standard.specs.Planes.{grid, captured_slice, above, below, marked}
use Rattle.standard.specs.Refusals.{sub_x_of, sub_y_of, plane_height, plane_width, samples, first, plane_tests, capture_tests, stripe_tests, no1, no4, no9, no12, no15, scratch_need, copy_need}
use Rattle.standard.specs.Calls.{if_done, shape_of, Lent, StripeCall, own_rows, stripe_call_number, stripe_done, after_stripe, run}
use Rattle.standard.specs.Job.{Job, job_tests, job_rows, job_call, job_stripes, in_place, job_differs}
use Rattle.standard.proofs.Refusals.{nth, first_past, plane_table}
use Rattle.standard.proofs.Range.{Legal, plane_range}
use Rattle.standard.proofs.Stripes.{Halved, full, half}
use Rattle.standard.proofs.Demand3.{Ours, Allowed, Kept, begin, kept_begin, kept_run, length_run, whole}
use Rattle.standard.proofs.Witness.{changed_none}
use Rattle.standard.proofs.Job.{Bounded, listing_join, all_listing}
use Rattle.frames.proofs.Legal.{halved}
use Rattle.units.proofs.Depths.{bits_of}
use Rattle.in_place.specs.Call.{Promised, call_of, lent}
use Rattle.worked.specs.Work.{stripes_run}
use Rattle.edges.proofs.Laws.{rows_room}
use Rattle.edges.proofs.Numbers as capture
use Rattle.asked.proofs.Numbers.{PlanePassed, plane_passed}

-- ---- tests of every element
all_take : {A : Type 0} (g : A → Bool) (n : ℕ) (l : List A) → T (all g l) → T (all g (take n l))
unfolding all
all_take g zero l t = tt
all_take g (suc n) [] t = tt
all_take g (suc n) (a ∷ l) t = and_both (g a) (all g (take n l)) (and_l (g a) (all g l) t) (all_take g n l (and_r (g a) (all g l) t))

all_drop : {A : Type 0} (g : A → Bool) (n : ℕ) (l : List A) → T (all g l) → T (all g (drop n l))
unfolding all
all_drop g zero l t = t
all_drop g (suc n) [] t = tt
all_drop g (suc n) (a ∷ l) t = all_drop g n l (and_r (g a) (all g l) t)

part_in : {A : Type 0} (g : A → Bool) (n a : ℕ) (l : List A) → T (all g l) → T (all g (take n (drop a l)))
part_in g n a l t = all_take g n (drop a l) (all_drop g a l t)

all_each : {A : Type 0} (g : A → Bool) (z : A) (l : List A) → ((k : ℕ) → k < length l → T (g (get_or l k z))) → T (all g l)
unfolding all
all_each g z [] h = tt
all_each g z (a ∷ l) h = and_both (g a) (all g l) (h 0 (omega arith)) (all_each g z l (λ k p. h (suc k) (omega arith)))

-- ---- runs of calls
run_more : (l : List StripeCall) (c : StripeCall) (st : Lent) → run (l ++ (c ∷ [])) st ≡ after_stripe c (run l st)
unfolding run
run_more [] c st = refl
run_more (d ∷ l) c st = run_more l c (after_stripe d st)

listing_more : {A : Type 0} (n : ℕ) (g : ℕ → A) → listing n g ++ (g n ∷ []) ≡ listing (n + 1) g
unfolding listing
listing_more n g = ap (λ k. listing n g ++ (g k ∷ [])) {x = n} {y = n + 0} (omega arith) ∙ listing_join n 1 g (λ k. g (n + k)) (λ k. refl)

pub run_one_more : (n : ℕ) (g : ℕ → StripeCall) (st : Lent) → run (listing (n + 1) g) st ≡ after_stripe (g n) (run (listing n g) st)
run_one_more n g st = ap (λ l. run l st) (sym (listing_more n g)) ∙ run_more (listing n g) (g n) st

-- n stripes of one plane, and one more by the promise of its call
pub stripes_none : (f : Frame) (table E : List ℤ) (k m : ℕ) (st : Lent) → st ≡ stripes_run f table E k m 0 st
unfolding stripes_run run listing
stripes_none f table E k m st = refl

pub stripes_more : (f : Frame) (table E : List ℤ) (k₀ m₀ k m s : ℕ) (st mid after : Lent) (r : Result (Unit {0}) Refusal) → mid ≡ stripes_run f table E k₀ m₀ s st → k ≡ k₀ → m ≡ m₀ →
    Promised (call_of f s table E k m) mid r after → after ≡ stripes_run f table E k₀ m₀ (s + 1) st
unfolding stripes_run
stripes_more f table E k₀ m₀ k m s st mid after r e ek em p =
    ap2 lent p.1 p.2 ∙ ap2 (λ a b. after_stripe (call_of f s table E a b) mid) ek em ∙ ap (after_stripe (call_of f s table E k₀ m₀)) e
    ∙ sym (run_one_more s (λ i. call_of f i table E k₀ m₀) st)

-- ---- tests that do not hold
go_on : (n : ℕ) (b : Bool) (l : List (ℕ × Bool)) → b ≡ false → first l ≡ 0 → first ((n, b) ∷ l) ≡ 0
go_on n b l e h = first_past n b l e ∙ h

no_test : first [] ≡ 0
unfolding first
no_test = refl

-- ---- bounds of the job program
pub extent_small : {sub : ℕ} → Halved sub → (side : ℕ) → round_ℕ sub side ≤ side
unfolding round_ℕ
extent_small full side = omega arith
extent_small half side = omega arith

extent_halved : {sub : ℕ} → Halved sub → (side : ℕ) → side ≤ 128 → round_ℕ sub side ≤ 128 / 2 ^ sub
unfolding round_ℕ
extent_halved full side h = omega arith
extent_halved half side h = omega arith

few_stripes : {sy : ℕ} → Halved sy → (h : ℕ) → h ≤ 128 / 2 ^ sy → stripes sy h ≤ 3
unfolding stripes stripe_of
few_stripes full h p = omega arith
few_stripes half h p = omega arith

-- a stripe is at most 64 rows high
stripe_high : {sy : ℕ} → Halved sy → (h : ℕ) → min h (64 / 2 ^ sy) ≤ 64
stripe_high full h = omega arith
stripe_high half h = omega arith

copied : {sy : ℕ} → Halved sy → (h w : ℕ) → w ≤ 8 → copy_need sy h w ≤ 512
unfolding copy_need
copied k h w p = mul_small 8 64 p (stripe_high k h)

pub scratched : {sy : ℕ} → Halved sy → (h w : ℕ) → w ≤ 8 → scratch_need sy h w ≤ 6912
unfolding scratch_need
scratched k h w p = mul_small 96 72 (omega arith) (omega (arith, stripe_high k h))

-- ---- samples in range
abbrev in_range : ℕ → ℤ → Bool
in_range depth = between (pos 0) (pos (2 ^ depth - 1))

ranged_no : (depth : ℕ) (l : List ℤ) → T (all (in_range depth) l) → no15 depth l ≡ false
unfolding no15
ranged_no depth l t = ap not (is_true (all (in_range depth) l) t)

ranged_yes : (depth : ℕ) (l : List ℤ) → no15 depth l ≡ false → T (all (in_range depth) l)
unfolding no15
ranged_yes depth l e = not_no (all (in_range depth) l) e

zero_in : (depth : ℕ) → T (in_range depth (pos 0))
zero_in depth = le→leb 0 (2 ^ depth - 1) (omega arith)

pos_in : (depth n : ℕ) → n ≤ 2 ^ depth - 1 → T (in_range depth (pos n))
pos_in depth n h = and_both (leb 0 n) (leb n (2 ^ depth - 1)) (le→leb 0 n (omega arith)) (le→leb n (2 ^ depth - 1) h)

size_in : (depth : ℕ) (z : ℤ) → T (in_range depth z) → nat_abs z ≤ 2 ^ depth - 1
size_in depth (pos n) t = leb→le n (2 ^ depth - 1) (and_r (leb 0 n) (leb n (2 ^ depth - 1)) t)
size_in depth (negsuc n) t = absurd t

-- the samples of a plane of legal numbers
legal_plane : (depth w : ℕ) (s : List ℤ) → no1 depth ≡ false → no15 depth s ≡ false → Legal (largest (depth_of depth)) (grid w s)
unfolding grid
legal_plane depth w s d e = record {
  low = λ y x. subst (λ n. nat_abs (get_or s (y * w + x) (pos 0)) ≤ 2 ^ n - 1) (sym (bits_of depth d)) (size_in depth (get_or s (y * w + x) (pos 0)) (all_at (in_range depth) (pos 0) (zero_in depth) s (ranged_yes depth s e) (y * w + x)));
}

-- parts of the edge rows
part_or_none : (g : ℤ → Bool) (b c : Bool) (l : List ℤ) → T (all g l) → T (all g (cond b (cond c l []) []))
unfolding all
part_or_none g true true l t = t
part_or_none g true false l t = tt
part_or_none g false c l t = tt

-- ---- marks of which the first n are set
zeros_at : (m k : ℕ) → ◌≡◌ {A = ℕ} (get_or (replicate m 0) k 0) 0
zeros_at zero k = refl
zeros_at (suc m) zero = refl
zeros_at (suc m) (suc k) = zeros_at m k

module _ (n m : ℕ) (l : List ℕ) (k : ℕ) where
  mark_set : k < n → n ≤ m → l ≡ stamp (λ _. 1) 0 n (replicate m 0) → get_or l k 0 ≡ 1
  mark_set h p e = stamp_at (λ _. 1) 0 n (replicate m 0) l k k 0 e (omega (arith, length-replicate {A = ℕ} m 0)) h (omega arith)

  mark_clear : n ≤ k → l ≡ stamp (λ _. 1) 0 n (replicate m 0) → get_or l k 0 ≡ 0
  mark_clear h e = stamp_after (λ _. 1) 0 n (replicate m 0) l k 0 e (omega arith) ∙ zeros_at m k

  mark_legal : n ≤ m → l ≡ stamp (λ _. 1) 0 n (replicate m 0) → T (leb (get_or l k 0) 1)
  mark_legal p e = go (lt_or_le k n)
    where
      go : (k < n) ⊎ (n ≤ k) → T (leb (get_or l k 0) 1)
      go (inl h) = subst (λ v. T (leb v 1)) (sym (mark_set h p e)) tt
      go (inr h) = subst (λ v. T (leb v 1)) (sym (mark_clear h e)) tt

-- ---- the run
module _ (j : Job) (r : Bounded j) (z : first (job_tests j) ≡ 0) where
  abbrev f : Frame
  f = j.frame

  abbrev D : List ℤ
  D = j.deblocked

  abbrev C : List ℤ
  C = j.cdef

  abbrev E : List ℤ
  E = captured_slice (sub_y_of f) (plane_height f) (plane_width f) D

  none : (k : ℕ) → (nth (plane_tests f j.units D C (length C) 6912) k).1 ≡ false
  unfolding job_tests
  none k = (plane_table f j.units D C (length C) 6912).complete z k

  pub passed : PlanePassed f j.units D C (length C) 6912
  unfolding job_tests
  passed = plane_passed f j.units D C (length C) 6912 z

  hv : Halved (sub_y_of f)
  hv = halved (sub_y_of f) passed.legal.own_y

  pub narrow : plane_width f ≤ 8
  narrow = omega (arith, extent_small (halved (sub_x_of f) passed.legal.own_x) f.upscaled_width, r.width)

  pub low : plane_height f ≤ 128
  low = omega (arith, extent_small hv f.frame_height, r.height)

  pub three : stripes (sub_y_of f) (plane_height f) ≤ 3
  three = few_stripes hv (plane_height f) (extent_halved hv f.frame_height r.height)

  -- capture is done
  pub edges_long : length E ≡ 4 * plane_width f * (stripes (sub_y_of f) (plane_height f) - 1)
  unfolding captured_slice
  edges_long = length_listing _ _ ∙ rows_room (plane_width f) (stripes (sub_y_of f) (plane_height f))

  pub capture_done : (n : ℕ) → n ≡ 4 * plane_width f * (stripes (sub_y_of f) (plane_height f) - 1) → first (capture_tests f D n) ≡ 0
  unfolding plane_tests
  capture_done n e =
      let sides = or_no (no4 f.frame_height) (no4 f.upscaled_width) (none 3) in
      sym (capture.gives_0 f D n (none 0) (none 1) sides.0 sides.1 passed.long_d e passed.ranged_d)

  -- a state in which stripe s is next
  record Ready (st : Lent) (s : ℕ) : Type 0 where
    long : length st.plane ≡ samples f
    ranged : T (all (in_range f.depth) st.plane)
    marks_long : length st.marks ≡ job_stripes j
    marks_legal : T (all (λ m. leb m 1) st.marks)
    here : s < job_stripes j
    clear : marked st.marks s ≡ false

  own_in : (P : List ℤ) (s : ℕ) → T (all (in_range f.depth) P) → no15 f.depth (own_rows f P s) ≡ false
  unfolding own_rows
  own_in P s t = ranged_no f.depth _ (part_in (in_range f.depth) ((min (plane_height f) (stripe_stop (sub_y_of f) s) - stripe_start (sub_y_of f) s) * plane_width f) (stripe_start (sub_y_of f) s * plane_width f) P t)

  edges_in : T (all (in_range f.depth) E)
  unfolding captured_slice
  edges_in = all_listing (in_range f.depth) _ _ (λ n. all_at (in_range f.depth) (pos 0) (zero_in f.depth) D (ranged_yes f.depth D passed.ranged_d) _)

  over_in : (s : ℕ) → no15 f.depth (above (sub_y_of f) (plane_height f) (plane_width f) E s) ≡ false
  unfolding above
  over_in s = ranged_no f.depth _ (part_or_none (in_range f.depth) (ltb 0 s) (ltb s (stripes (sub_y_of f) (plane_height f))) (take (2 * plane_width f) (drop (4 * plane_width f * (s - 1)) E))
      (part_in (in_range f.depth) (2 * plane_width f) (4 * plane_width f * (s - 1)) E edges_in))

  under_in : (s : ℕ) → no15 f.depth (below (sub_y_of f) (plane_height f) (plane_width f) E s) ≡ false
  unfolding below
  under_in s = ranged_no f.depth _ (part_or_none (in_range f.depth) true (ltb (suc s) (stripes (sub_y_of f) (plane_height f))) (take (2 * plane_width f) (drop (4 * plane_width f * s + 2 * plane_width f) E))
      (part_in (in_range f.depth) (2 * plane_width f) (4 * plane_width f * s + 2 * plane_width f) E edges_in))

  and_none : (a b : Bool) → b ≡ false → (a && b) ≡ false
  and_none true b e = e
  and_none false b e = refl

  marks_pass : (m : List ℕ) → length m ≡ job_stripes j → T (all (λ k. leb k 1) m) → no12 (job_stripes j) m ≡ false
  unfolding no12
  marks_pass m e t = ap2 (λ a b. not (a && b)) (eq-eqb (length m) (job_stripes j) e) (is_true (all (λ k. leb k 1) m) t)

  edges_pass : no9 (sub_y_of f) (plane_height f) (plane_width f) (length E) ≡ false
  unfolding no9
  edges_pass = ap not (eq-eqb (length E) (4 * plane_width f * (stripes (sub_y_of f) (plane_height f) - 1)) edges_long)

  -- a stripe that is next is restored
  call_done : (st : Lent) (s : ℕ) → Ready st s → stripe_call_number (job_call j s) st ≡ 0
  unfolding stripe_call_number job_call job_stripes stripe_tests plane_tests
  call_done st s q =
      go_on 1 _ _ (none 0) (go_on 2 _ _ (none 1) (go_on 3 _ _ (none 2) (go_on 4 _ _ (none 3) (go_on 5 _ _ (none 4)
      (go_on 7 _ _ (ap not (eq-eqb (length st.plane) (samples f) q.long)) (go_on 9 _ _ edges_pass (go_on 10 _ _ (none 6) (go_on 11 _ _ (none 7)
      (go_on 12 _ _ (marks_pass st.marks q.marks_long q.marks_legal) (go_on 13 _ _ (lt-leb (stripes (sub_y_of f) (plane_height f)) s q.here) (go_on 14 _ _ q.clear
      (go_on 15 _ _ (ap3 (λ a b c. a || b || c) (own_in st.plane s q.ranged) (over_in s) (under_in s))
      (go_on 16 _ _ (and_none (ltb 0 f.frame_type) _ (ap2 ◌||◌ (le-ltb 6912 (scratch_need (sub_y_of f) (plane_height f) (plane_width f)) (scratched hv (plane_height f) (plane_width f) narrow)) (le-ltb 512 (copy_need (sub_y_of f) (plane_height f) (plane_width f)) (copied hv (plane_height f) (plane_width f) narrow))))
      no_test)))))))))))))

  -- ---- after n stripes
  ours : (s : ℕ) → Ours f j.units D (job_call j s)
  unfolding job_call
  ours s = record { same_frame = refl; same_table = refl; same_edges = refl }

  all_ours : (n : ℕ) (g : ℕ → StripeCall) → ((s : ℕ) → Ours f j.units D (g s)) → (st : Lent) → Allowed f j.units D (listing n g) st
  unfolding listing
  all_ours zero g o st = tt
  all_ours (suc n) g o st = (inl (o 0), all_ours n (λ k. g (suc k)) (λ k. o (suc k)) (after_stripe (g 0) st))

  abbrev state : ℕ → Lent
  state n = in_place j n

  held : (n : ℕ) → Kept (shape_of f j.units) hv D C (state n)
  unfolding in_place job_stripes
  held n = kept_run f j.units D hv C (listing n (job_call j)) (begin (shape_of f j.units) C) (all_ours n (job_call j) ours _) (kept_begin (shape_of f j.units) hv D C)

  long_at : (n : ℕ) → length (state n).plane ≡ samples f
  unfolding in_place job_stripes
  long_at n = length_run f j.units D hv (listing n (job_call j)) (begin (shape_of f j.units) C) (all_ours n (job_call j) ours _) passed.long_c

  -- every sample of it is restored or the CDEF plane's: in range both
  value_in : (n y x : ℕ) → y < plane_height f → x < plane_width f → T (in_range f.depth (get_or (state n).plane (y * plane_width f + x) (pos 0)))
  value_in n y x p q = subst (λ v. T (in_range f.depth v)) (sym ((held n).known y x p q)) (go (marked (state n).marks (stripe_of (sub_y_of f) y)))
    where
      restored : ℕ
      restored = restored_at (shape_of f j.units) (grid (plane_width f) D) (grid (plane_width f) C) y x

      go : (b : Bool) → T (in_range f.depth (cond b (pos restored) (get_or C (y * plane_width f + x) (pos 0))))
      go true = pos_in f.depth restored (subst (λ m. restored ≤ 2 ^ m - 1) (bits_of f.depth passed.depth)
          (plane_range (shape_of f j.units) (legal_plane f.depth (plane_width f) D passed.depth passed.ranged_d) (legal_plane f.depth (plane_width f) C passed.depth passed.ranged_c) y x))
      go false = all_at (in_range f.depth) (pos 0) (zero_in f.depth) C (ranged_yes f.depth C passed.ranged_c) (y * plane_width f + x)

  in_range_lem : (n : ℕ) → T (all (in_range f.depth) (state n).plane)
  in_range_lem n = all_each (in_range f.depth) (pos 0) (state n).plane (λ k h.
      let c : (k / plane_width f < plane_height f) × (k % plane_width f < plane_width f) = of_lt (omega (arith, long_at n)) in
      subst (λ i. T (in_range f.depth (get_or (state n).plane i (pos 0)))) (sym (cell_of k (plane_width f))) (value_in n (k / plane_width f) (k % plane_width f) c.0 c.1))

  -- the first n marks are set, the others clear
  abbrev Marked : ℕ → Type 0
  Marked n = (state n).marks ≡ stamp (λ _. 1) 0 n (replicate (job_stripes j) 0)

  marks_ready : (n : ℕ) → n < job_stripes j → Marked n → Ready (state n) n
  marks_ready n h e = record {
    long = long_at n;
    ranged = in_range_lem n;
    marks_long = ap length e ∙ stamp_length (λ _. 1) 0 n (replicate (job_stripes j) 0) ∙ length-replicate (job_stripes j) 0;
    marks_legal = all_each (λ m. leb m 1) 0 (state n).marks (λ k p. mark_legal n (job_stripes j) (state n).marks k (omega arith) e);
    here = h;
    clear = ap (λ m. eqb m 1) (mark_clear n (job_stripes j) (state n).marks n (omega arith) e);
  }

  state_more : (n : ℕ) → state (n + 1) ≡ after_stripe (job_call j n) (state n)
  unfolding in_place
  state_more n = run_one_more n (job_call j) _

  one_more : (n : ℕ) → n < job_stripes j → Marked n → Marked (n + 1)
  unfolding after_stripe stripe_done job_call
  one_more n h e =
      ap (λ st. st.marks) (state_more n) ∙ ap (λ k. (if_done k (stripe_done (job_call j n) (state n)) (state n)).marks) (call_done (state n) n (marks_ready n h e))
      ∙ stamp_more (λ _. 1) 0 n (replicate (job_stripes j) 0) (state n).marks 1 n e (omega arith) refl

  at_start : Marked 0
  unfolding in_place run listing
  at_start = stamp_none (λ _. 1) 0 (replicate (job_stripes j) 0)

  marks_at : (n : ℕ) → n ≤ job_stripes j → Marked n
  marks_at zero h = at_start
  marks_at (suc n) h = subst Marked (add-one n) (one_more n (omega arith) (marks_at n (omega arith)))

  -- no call of the run is refused
  pub stripe_done_lem : (s : ℕ) → s < job_stripes j → stripe_call_number (job_call j s) (in_place j s) ≡ 0
  stripe_done_lem s h = call_done (state s) s (marks_ready s h (marks_at s (omega arith)))

  -- and it leaves the whole-plane result
  pub in_place_whole : (in_place j (job_stripes j)).plane ≡ job_rows j
  unfolding in_place job_rows job_stripes
  in_place_whole = whole f j.units D hv C (listing (job_stripes j) (job_call j)) (all_ours (job_stripes j) (job_call j) ours _) passed.long_c
      (λ s h. ap (λ m. eqb m 1) (mark_set (job_stripes j) (job_stripes j) (state (job_stripes j)).marks s h (omega arith) (marks_at (job_stripes j) (omega arith))))

  pub differs_none : job_differs j ≡ 0
  unfolding job_differs
  differs_none = ap (λ P. changed (plane_height f) (plane_width f) (grid (plane_width f) (job_rows j)) (grid (plane_width f) P)) in_place_whole ∙ changed_none (plane_height f) (plane_width f) (grid (plane_width f) (job_rows j))

-- the code's run is the definition's
pub in_place_is : (j : Job) (k m n : ℕ) (M : List ℕ) → k ≡ 6912 → m ≡ 512 → n ≡ job_stripes j → M ≡ replicate (job_stripes j) 0 →
    (stripes_run j.frame j.units (captured_slice (sub_y_of j.frame) (plane_height j.frame) (plane_width j.frame) j.deblocked) k m n (lent j.cdef M)).plane ≡ (in_place j (job_stripes j)).plane
unfolding stripes_run in_place job_call
in_place_is j k m n M ek em en eM = rw (ek, em, en, eM)
