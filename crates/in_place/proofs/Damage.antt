-- DEMAND 3 on the code: runs of calls that keep the promise of `restore_stripe`, one after the other, nothing changed between. Such a run
-- ends where the definition's run ends, so what `standard` proves of that one holds of the code.
use mathlib.Core.Path.{◌≡◌, refl, sym, ◌∙◌, ap, subst}
use mathlib.Core.Logic.{◌⊎◌, inl, inr}
use mathlib.Core.Bool.{true, false}
use mathlib.Core.List.{List, [], ◌∷◌}
use Prim.Native.Nat.{ℕ, ◌*◌, ◌+◌, ◌<◌}
use lib.IntN.{ℤ, pos}
use lib.ListN.{length, get_or}
use Rattle.std.specs.Prelude.{Result}
use Rattle.laws.specs.Congruence.{ap2}
use Rattle.standard.specs.declared.Frame.{Frame}
use Rattle.standard.specs.declared.Refusal.{Refusal}
use Rattle.standard.specs.Answers.{of_stored}
use Rattle.standard.specs.Stripes.{stripe_of, stripes}
use Rattle.standard.specs.Planes.{captured_slice, grid, marked, restored_slice}
use Rattle.standard.specs.Refusals.{capture_tests, first, plane_height, plane_tests, plane_width, samples, sub_y_of}
use Rattle.standard.specs.Calls.{Lent, StripeCall, after_stripe, capture_edges, plane_out, run, shape_of, stripe_call_number}
use Rattle.standard.proofs.Stripes.{Halved}
use Rattle.standard.proofs.Edges.{Clean, Untouched}
use Rattle.standard.proofs.Demand3 as model
use Rattle.frames.proofs.Legal.{halved}
use Rattle.edges.proofs.Numbers.{captured_done, passed}
use Rattle.restoration.proofs.Answers.{out_done}
use Rattle.in_place.specs.Call.{Promised, lent}

-- a call of the run, with its answer and what it left in plane and marks
pub record Called : Type 0 where
  pub call : StripeCall
  pub answer : Result (Unit {0}) Refusal
  pub after : Lent

-- each call keeps its promise on what the call before it left
unfoldable pub Ran : List Called → Lent → Type 0
Ran [] st = Unit
Ran (k ∷ l) st = Promised k.call st k.answer k.after × Ran l k.after

-- what the last call left
unfoldable pub ended : List Called → Lent → Lent
ended [] st = st
ended (k ∷ l) st = ended l k.after

unfoldable pub calls : List Called → List StripeCall
calls [] = []
calls (k ∷ l) = k.call ∷ calls l

after_is : (c : StripeCall) (st mid : Lent) (r : Result (Unit {0}) Refusal) → Promised c st r mid → mid ≡ after_stripe c st
after_is c st mid r p = ap2 lent p.1 p.2

-- such a run ends where the definition's does
pub run_ended : (l : List Called) (st : Lent) → Ran l st → ended l st ≡ run (calls l) st
unfolding Ran ended run calls
run_ended [] st r = refl
run_ended (k ∷ l) st r = run_ended l k.after r.1 ∙ ap (run (calls l)) (after_is k.call st k.after k.answer r.0)

-- ---- frame, unit table and edge rows; the rows were captured from D by a `capture_edges` that was done
module _ (f : Frame) (table D E₀ E : List ℤ) (captured : Result (Unit {0}) Refusal) (answered : of_stored captured ≡ first (capture_tests f D (length E₀))) (left : E ≡ capture_edges f D E₀) (done : of_stored captured ≡ 0) where
  zero : first (capture_tests f D (length E₀)) ≡ 0
  zero = sym answered ∙ done

  hv : Halved (sub_y_of f)
  hv = halved (sub_y_of f) (passed f D (length E₀) zero).legal.own_y

  edges_are : E ≡ captured_slice (sub_y_of f) (plane_height f) (plane_width f) D
  edges_are = left ∙ sym (captured_done f D E₀ zero)

  -- with these, of any stripe and with any scratch and copy
  pub record Ours (c : StripeCall) : Type 0 where
    pub same_frame : c.frame ≡ f
    pub same_table : c.table ≡ table
    pub same_edges : c.edges ≡ E

  -- each call of the run is one of ours, or was refused, of whatever arguments
  unfoldable pub Fair : List Called → Type 0
  Fair [] = Unit
  Fair (k ∷ l) = (Ours k.call ⊎ (of_stored k.answer ≡ 0 → ⊥)) × Fair l

  allowed : (l : List Called) (st : Lent) → Ran l st → Fair l → model.Allowed f table D (calls l) st
  unfolding Ran Fair calls
  allowed [] st r a = tt
  allowed (k ∷ l) st r a = (one a.0, subst (model.Allowed f table D (calls l)) (after_is k.call st k.after k.answer r.0) (allowed l k.after r.1 a.1))
    where
      one : Ours k.call ⊎ (of_stored k.answer ≡ 0 → ⊥) → model.Ours f table D k.call ⊎ (stripe_call_number k.call st ≡ 0 → ⊥)
      one (inl o) = inl (record { same_frame = o.same_frame; same_table = o.same_table; same_edges = o.same_edges ∙ edges_are })
      one (inr n) = inr (λ e. n (r.0.0 ∙ e))

  -- clear marks
  abbrev pub begun : List ℤ → Lent
  begun B = model.begin (shape_of f table) B

  -- the sample that the standard gives from two planes
  abbrev pub given : List ℤ → ℕ → ℕ → ℕ
  given C y x = model.given (shape_of f table) D C y x

  -- C is the CDEF plane before samples of it were overwritten, B after. A restored sample with no overwritten one within 3 rows and 3
  -- columns in its stripe is what the standard gives from the undamaged planes
  pub damage_stays : (C B : List ℤ) (l : List Called) → Ran l (begun B) → Fair l → (y x : ℕ) → y < plane_height f → x < plane_width f →
      Clean (shape_of f table) (grid (plane_width f) C) (grid (plane_width f) B) y x → marked (ended l (begun B)).marks (stripe_of (sub_y_of f) y) ≡ true →
      get_or (ended l (begun B)).plane (y * plane_width f + x) (pos 0) ≡ pos (given C y x)
  damage_stays C B l r a y x hy hx c m =
      ap (λ (st : Lent). get_or st.plane (y * plane_width f + x) (pos 0)) (run_ended l (begun B) r)
      ∙ model.demand3 f table D hv C B (calls l) (allowed l (begun B) r a) y x hy hx c (ap (λ (st : Lent). marked st.marks (stripe_of (sub_y_of f) y)) (sym (run_ended l (begun B) r)) ∙ m)

  -- so each sample of a restored stripe in which nothing was overwritten
  pub whole_stripe_stays : (C B : List ℤ) (l : List Called) → Ran l (begun B) → Fair l → (y x : ℕ) → y < plane_height f → x < plane_width f →
      Untouched (shape_of f table) (grid (plane_width f) C) (grid (plane_width f) B) (stripe_of (sub_y_of f) y) → marked (ended l (begun B)).marks (stripe_of (sub_y_of f) y) ≡ true →
      get_or (ended l (begun B)).plane (y * plane_width f + x) (pos 0) ≡ pos (given C y x)
  whole_stripe_stays C B l r a y x hy hx u m = damage_stays C B l r a y x hy hx (record { clean = λ v w p q e _ _ _ _. u.same v w p q e }) m

  -- and a sample whose stripe is not marked is as it was
  pub unmarked_stays : (B : List ℤ) (l : List Called) → Ran l (begun B) → Fair l → (y x : ℕ) → y < plane_height f → x < plane_width f →
      marked (ended l (begun B)).marks (stripe_of (sub_y_of f) y) ≡ false → get_or (ended l (begun B)).plane (y * plane_width f + x) (pos 0) ≡ get_or B (y * plane_width f + x) (pos 0)
  unmarked_stays B l r a y x hy hx m =
      ap (λ (st : Lent). get_or st.plane (y * plane_width f + x) (pos 0)) (run_ended l (begun B) r)
      ∙ model.unmarked f table D hv B (calls l) (allowed l (begun B) r a) y x hy hx (ap (λ (st : Lent). marked st.marks (stripe_of (sub_y_of f) y)) (sym (run_ended l (begun B) r)) ∙ m)

  -- with no damage, when every stripe is marked the plane is the one that `restore_plane` promises
  pub in_place_is_whole : (C : List ℤ) (l : List Called) → Ran l (begun C) → Fair l → length C ≡ samples f →
      ((s : ℕ) → s < stripes (sub_y_of f) (plane_height f) → marked (ended l (begun C)).marks s ≡ true) → (ended l (begun C)).plane ≡ restored_slice (shape_of f table) D C
  in_place_is_whole C l r a e m =
      ap (λ (st : Lent). st.plane) (run_ended l (begun C) r)
      ∙ model.whole f table D hv C (calls l) (allowed l (begun C) r a) e (λ s h. ap (λ (st : Lent). marked st.marks s) (sym (run_ended l (begun C) r)) ∙ m s h)

  pub in_place_is_restore_plane : (C out : List ℤ) (scratch : ℕ) (l : List Called) → Ran l (begun C) → Fair l → length C ≡ samples f →
      ((s : ℕ) → s < stripes (sub_y_of f) (plane_height f) → marked (ended l (begun C)).marks s ≡ true) →
      first (plane_tests f table D C (length out) scratch) ≡ 0 → (ended l (begun C)).plane ≡ plane_out f table D C out scratch
  in_place_is_restore_plane C out scratch l r a e m z = in_place_is_whole C l r a e m ∙ out_done f table D C out scratch z
