-- The tests' number is the call's, and what the call leaves: the restored stripe and its mark where it is done, plane and marks as they
-- were where it is refused.
use mathlib.Core.Path.{◌≡◌, sym, ◌∙◌, ap}
use mathlib.Core.Bool.{Bool, cond}
use mathlib.Core.List.{List}
use Prim.Native.Nat.{ℕ, ◌+◌, ◌-◌, ◌*◌, ◌/◌, ◌^◌, ◌≤◌, ◌<◌, min}
use native.Mathlib.Omega.{arith}
use native.Mathlib.Nat.{mul_comm, mul-le-mul, add-mul}
use borrow.Author.Tests.{eq-eqb, ne_eqb}
use lib.IntN.{ℤ, pos}
use lib.ListN.{length, get_or, set, drop, length-take, length-drop}
use Rattle.laws.specs.Index.{cell_lt, part_at}
use Rattle.laws.specs.Runs.{stamp, stamp_at, stamp_length}
use Rattle.standard.specs.declared.Frame.{Frame}
use Rattle.standard.specs.Stripes.{stripe_start, stripe_stop, stripes}
use Rattle.standard.specs.Planes.{stripe_slice}
use Rattle.standard.specs.Refusals.{copy_need, first, plane_height, plane_width, samples, sub_y_of}
use Rattle.standard.specs.Calls.{Lent, after_stripe, own_rows, shape_of, stripe_call_number, stripe_done}
use Rattle.fetch.specs.declared.Source.{Source}
use Rattle.fetch.proofs.Sources.{Copied}
use Rattle.stripe_tests.specs.Parts.{Numbered, all_tests, all_tests_lem}
use Rattle.stripe_tests.proofs.Laws.{rows_fit, rows_of}
use Rattle.in_place.specs.Call.{call_of, lent}

module _ (f : Frame) (s : ℕ) (table E P : List ℤ) (marks : List ℕ) (scratch copy : ℕ) where
  abbrev number : ℕ
  number = stripe_call_number (call_of f s table E scratch copy) (lent P marks)

  pub number_is : first (all_tests f s E P scratch copy table marks) ≡ number
  unfolding stripe_call_number
  number_is = ap first (all_tests_lem f s E P scratch copy table marks)

  left : Bool → Lent
  left b = cond b (stripe_done (call_of f s table E scratch copy) (lent P marks)) (lent P marks)

  pub plane_done : number ≡ 0 → stripe_slice (shape_of f table) E s P ≡ (after_stripe (call_of f s table E scratch copy) (lent P marks)).plane
  unfolding after_stripe stripe_done left
  plane_done e = ap (λ (b : Bool). (left b).plane) (sym (eq-eqb number 0 e))

  pub marks_done : number ≡ 0 → set marks s 1 ≡ (after_stripe (call_of f s table E scratch copy) (lent P marks)).marks
  unfolding after_stripe stripe_done left
  marks_done e = ap (λ (b : Bool). (left b).marks) (sym (eq-eqb number 0 e))

  pub plane_refused : (number ≡ 0 → ⊥) → P ≡ (after_stripe (call_of f s table E scratch copy) (lent P marks)).plane
  unfolding after_stripe left
  plane_refused e = ap (λ (b : Bool). (left b).plane) (sym (ne_eqb number 0 e))

  pub marks_refused : (number ≡ 0 → ⊥) → marks ≡ (after_stripe (call_of f s table E scratch copy) (lent P marks)).marks
  unfolding after_stripe left
  marks_refused e = ap (λ (b : Bool). (left b).marks) (sym (ne_eqb number 0 e))

-- ---- the copy
module _ {f : Frame} (n : Numbered f) (s : ℕ) (there : s < stripes (sub_y_of f) (plane_height f)) (P rows : List ℤ) (long : length P ≡ samples f) (e : rows ≡ own_rows f P s) where
  abbrev start : ℕ
  start = stripe_start (sub_y_of f) s

  abbrev high : ℕ
  high = min (plane_height f) (stripe_stop (sub_y_of f) s) - stripe_start (sub_y_of f) s

  rows_long : length rows ≡ high * plane_width f
  unfolding own_rows
  rows_long = let r = rows_of n s there in ap length e ∙ length-take (high * plane_width f) (drop (start * plane_width f) P)
      ∙ omega (arith, length-drop (start * plane_width f) P, rows_fit (plane_height f) (plane_width f) start (min (plane_height f) (stripe_stop (sub_y_of f) s)) r.ordered r.inside, long)

  pub copy_fits : (copy : ℕ) → copy_need (sub_y_of f) (plane_height f) (plane_width f) ≤ copy → length rows ≤ copy
  unfolding copy_need
  copy_fits copy h = omega (arith, rows_long, mul_comm high (plane_width f), h, mul-le-mul {n₁ = plane_width f} {m₁ = high} {n₂ = plane_width f} {m₂ = min (plane_height f) (64 / 2 ^ sub_y_of f)} (omega arith) (rows_of n s there).high)

  pub copied : (d t : List ℤ) → length rows ≤ length d → t ≡ stamp (λ k. get_or rows (0 + k) (pos 0)) 0 (length rows) d → Copied P t (plane_width f) start high
  unfolding own_rows
  copied d t h w = record {
    long = omega (arith, h, rows_long, ap length w, stamp_length (λ k. get_or rows (0 + k) (pos 0)) 0 (length rows) d);
    same = λ k x p q.
        let i = k * plane_width f + x in
        let l : i < high * plane_width f = cell_lt p q in
        stamp_at (λ k. get_or rows (0 + k) (pos 0)) 0 (length rows) d t i i (pos 0) w (omega arith) (omega (arith, l, rows_long)) (omega arith)
        ∙ ap (λ (j : ℕ). get_or rows j (pos 0)) (omega arith)
        ∙ ap (λ (v : List ℤ). get_or v i (pos 0)) e
        ∙ part_at (start * plane_width f) (high * plane_width f) P i (pos 0) l
        ∙ ap (λ (j : ℕ). get_or P j (pos 0)) (omega (arith, add-mul start k (plane_width f)));
  }

-- ---- a source by its numbers
abbrev of_numbers : ℕ → ℕ → ℕ → ℕ → ℕ → Source
of_numbers a b i o u = record { start = a; stop = b; inside = i; over = o; under = u }

pub source_of : (a b i o u a2 b2 i2 o2 u2 : ℕ) → a ≡ a2 → b ≡ b2 → i ≡ i2 → o ≡ o2 → u ≡ u2 → of_numbers a b i o u ≡ of_numbers a2 b2 i2 o2 u2
source_of a b i o u a2 b2 i2 o2 u2 p q r s t = rw (p, q, r, s, t)
