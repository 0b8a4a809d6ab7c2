-- What the frame's numbers and a stripe's number give: a legal frame, rows that lie in the plane, and the arms of a typed condition.
use mathlib.Core.Path.{◌≡◌, refl, sym, ◌∙◌, ap}
use mathlib.Core.Bool.{Bool, true, false, ◌&&◌}
use mathlib.Core.List.{List, [], ◌∷◌}
use Prim.Native.Nat.{ℕ, ◌+◌, ◌-◌, ◌*◌, ◌/◌, ◌^◌, ◌≤◌, ◌<◌, min}
use native.Mathlib.Omega.{arith}
use native.Mathlib.Nat.{add-mul, add-sub_cancel_left, mul-le-mul}
use borrow.Author.Tests.{lt-ltb, eqb-true, not-false}
use lib.Dec.{eqb, leb}
use lib.IntN.{ℤ}
use lib.ListN.{length, take, drop}
use Rattle.laws.specs.Lists.{all}
use Rattle.laws.specs.Tests.{and_l, is_true, not_no}
use Rattle.standard.specs.declared.Frame.{Frame}
use Rattle.standard.specs.Stripes.{stripe_start, stripe_stop, stripes}
use Rattle.standard.specs.Refusals.{first, frame2, frame4, no9, no12, plane_height, plane_width, size5, sub_y_of, typed}
use Rattle.standard.specs.Calls.{own_rows}
use Rattle.standard.proofs.Stripes.{Halved, full, half, stripe_exists}
use Rattle.standard.proofs.Refusals.{first_here, first_past}
use Rattle.frames.proofs.Legal.{LegalFrame, halved, legal_frame, passed_between}
use Rattle.frames.specs.declared.plane.Plane.{Plane}
use Rattle.geometry.proofs.Laws.{stripes_small}
use Rattle.stripe_tests.specs.Parts.{Numbered}

pub legal : {f : Frame} → Numbered f → LegalFrame f
legal {f = f} n = legal_frame f n.plane n.high n.wide

-- ---- a condition that frame type 0 does not give
pub as_typed : (f : Frame) (b : Bool) → (f.frame_type ≡ 0 → ⊥) → b ≡ typed f b
as_typed f b e = rw (lt-ltb 0 f.frame_type (omega (arith, e)))

pub sized : (f : Frame) → typed f (size5 f) ≡ false → (f.frame_type ≡ 0 → ⊥) → size5 f ≡ false
sized f p e = as_typed f (size5 f) e ∙ p

-- ---- edge rows
pub edge_room : (f : Frame) (edge : ℕ) → no9 (sub_y_of f) (plane_height f) (plane_width f) edge ≡ false → edge ≡ 4 * plane_width f * (stripes (sub_y_of f) (plane_height f) - 1)
unfolding no9
edge_room f edge e = eqb-true edge (4 * plane_width f * (stripes (sub_y_of f) (plane_height f) - 1)) (not-false (eqb edge (4 * plane_width f * (stripes (sub_y_of f) (plane_height f) - 1))) e)

pub marks_long : (n : ℕ) (marks : List ℕ) → no12 n marks ≡ false → length marks ≡ n
unfolding no12
marks_long n marks e = eqb-true (length marks) n (is_true _ (and_l (eqb (length marks) n) (all (λ m. leb m 1) marks) (not_no (eqb (length marks) n && all (λ m. leb m 1) marks) e)))

-- ---- the rows of a stripe
start_stop : {sy : ℕ} → Halved sy → (s : ℕ) → stripe_stop sy s ≡ stripe_start sy s + (stripe_stop sy s - stripe_start sy s)
unfolding stripe_start stripe_stop
start_stop full s = omega arith
start_stop half s = omega arith

stripe_high : {sy : ℕ} → Halved sy → (h s : ℕ) → stripe_start sy s < h → min h (stripe_stop sy s) - stripe_start sy s ≤ min h (64 / 2 ^ sy)
unfolding stripe_start stripe_stop
stripe_high full h s p = omega arith
stripe_high half h s p = omega arith

pub record Rows (h sy s : ℕ) : Type 0 where
  pub few : s ≤ 65535
  pub starts : stripe_start sy s < h
  pub ordered : stripe_start sy s ≤ min h (stripe_stop sy s)
  pub inside : min h (stripe_stop sy s) ≤ h
  pub high : min h (stripe_stop sy s) - stripe_start sy s ≤ min h (64 / 2 ^ sy)

pub rows_of_legal : {f : Frame} → LegalFrame f → (s : ℕ) → s < stripes (sub_y_of f) (plane_height f) → Rows (plane_height f) (sub_y_of f) s
rows_of_legal {f = f} g s l =
    let hv = halved (sub_y_of f) g.own_y in
    let p = (stripe_exists hv (plane_height f) s g.rows).0 l in
    record {
      few = omega (arith, l, stripes_small (sub_y_of f) (plane_height f) g.own_y (omega (arith, g.rows_low)));
      starts = p;
      ordered = omega (arith, p, start_stop hv s);
      inside = omega arith;
      high = stripe_high hv (plane_height f) s p;
    }

pub rows_of : {f : Frame} → Numbered f → (s : ℕ) → s < stripes (sub_y_of f) (plane_height f) → Rows (plane_height f) (sub_y_of f) s
rows_of n s l = rows_of_legal (legal n) s l

-- rows start .. stop of a plane of h rows lie in it
pub rows_fit : (h w start stop : ℕ) → start ≤ stop → stop ≤ h → start * w + (stop - start) * w ≤ h * w
rows_fit h w start stop p q =
    omega (arith, add-mul start (stop - start) w, ap (λ (n : ℕ). n * w) {x = start + (stop - start)} {y = stop} (omega arith), mul-le-mul {n₁ = stop} {m₁ = w} {n₂ = h} {m₂ = w} q (omega arith))

-- the same by the values that the code holds
pub rows_held : (h w start stop wide a b n : ℕ) → wide ≡ w → a ≡ start → b ≡ stop → start ≤ stop → stop ≤ h → n ≡ h * w → a * wide + (b - a) * wide ≤ n
rows_held h w start stop wide a b n ew ea eb p q e = rw (ew, ea, eb) (omega (arith, rows_fit h w start stop p q, e))

-- ---- what is left of a test of two or three conditions
-- ---- the part that is lent
pub own_part : (f : Frame) (P : List ℤ) (s wide a b : ℕ) → wide ≡ plane_width f → a ≡ stripe_start (sub_y_of f) s → b ≡ min (plane_height f) (stripe_stop (sub_y_of f) s) →
    take (a * wide + (b - a) * wide - a * wide) (drop (a * wide) P) ≡ own_rows f P s
unfolding own_rows
own_part f P s wide a b ew ea eb = ap (λ (n : ℕ). take n (drop (a * wide) P)) (add-sub_cancel_left (a * wide) ((b - a) * wide)) ∙ rw (ew, ea, eb)

-- ---- the number that a test gives, by the answer of its condition's function
pub told : {r b v : Bool} → r ≡ b → r ≡ v → b ≡ v
told e t = sym e ∙ t

pub here : (n : ℕ) (b : Bool) (l : List (ℕ × Bool)) → b ≡ true → n ≡ first ((n, b) ∷ l)
here n b l e = sym (first_here n b l e)

pub past : (m n : ℕ) (b : Bool) (l : List (ℕ × Bool)) → b ≡ false → m ≡ first l → m ≡ first ((n, b) ∷ l)
past m n b l e h = h ∙ sym (first_past n b l e)

-- 2, 3 and 4, where a plane of the frame is known
pub past_plane : (p : Plane) (f : Frame) → p.frame ≡ f → (c : Bool) (l : List (ℕ × Bool)) (m : ℕ) → c ≡ false → m ≡ first l → m ≡ first (frame2 f ∷ (3, c) ∷ frame4 f ∷ l)
past_plane p f q c l m z e = e ∙ sym (passed_between p c l z) ∙ ap (λ (g : Frame). first (frame2 g ∷ (3, c) ∷ frame4 g ∷ l)) q

pub none : 0 ≡ first []
unfolding first
none = refl
