-- Case B as calls, computed by the checker. The whole plane: five samples changed. In place, so that demand 3 is not empty: a call with
-- too little scratch (16), one that is done, and one more of the same stripe (14).
use native.Mathlib.Omega.{arith}
use borrow.Author.Tests.{eq-eqb}
use mathlib.Core.Path.{◌≡◌, refl, ap}
use mathlib.Core.Bool.{cond}
use mathlib.Core.List.{List, [], ◌∷◌}
use Prim.Native.Nat.{ℕ, zero, suc}
use lib.IntN.{ℤ, pos, negsuc}
use Rattle.standard.specs.declared.Frame.{Frame}
use Rattle.standard.specs.Arithmetic.{sum}
use Rattle.standard.specs.Wiener.{Grid}
use Rattle.standard.specs.Fetch.{changed}
use Rattle.standard.specs.Planes.{captured_slice}
use Rattle.standard.specs.Refusals.{plane_tests}
use Rattle.standard.specs.Calls.{StripeCall, run, plane_answer, plane_changed}
use Rattle.standard.proofs.Opened.{opened}

frame_b : Frame
frame_b = record { plane = 0; sub_x = 0; sub_y = 0; depth = 8; frame_height = 1; upscaled_width = 7; unit_size = 64; frame_type = 1 }

units_b : List ℤ
units_b = pos 1 ∷ pos 3 ∷ negsuc 6 ∷ pos 15 ∷ pos 3 ∷ negsuc 6 ∷ pos 15 ∷ pos 0 ∷ pos 0 ∷ pos 0 ∷ []

deblocked_b : List ℤ
deblocked_b = pos 0 ∷ pos 0 ∷ pos 0 ∷ pos 0 ∷ pos 0 ∷ pos 0 ∷ pos 0 ∷ []

cdef_b : List ℤ
cdef_b = pos 0 ∷ pos 0 ∷ pos 0 ∷ pos 100 ∷ pos 0 ∷ pos 0 ∷ pos 0 ∷ []

call : ℕ → StripeCall
call scratch = record { frame = frame_b; table = units_b; edges = captured_slice 0 1 7 deblocked_b; stripe = 0; scratch = scratch; copy = 7 }

in_place : run (call 809 ∷ call 810 ∷ call 810 ∷ []) (record { plane = cdef_b; marks = 0 ∷ [] }) ≡ record { plane = pos 2 ∷ pos 0 ∷ pos 12 ∷ pos 83 ∷ pos 12 ∷ pos 0 ∷ pos 2 ∷ []; marks = 1 ∷ [] }
unfolding frame_b units_b deblocked_b cdef_b call opened
in_place = refl

five : plane_answer frame_b units_b deblocked_b cdef_b 7 810 ≡ (0, 5)
unfolding plane_answer plane_changed plane_tests frame_b units_b deblocked_b cdef_b opened
five = refl

sum_zero : (n : ℕ) (f : ℕ → ℕ) → ((k : ℕ) → f k ≡ 0) → sum n f ≡ 0
unfolding sum
sum_zero zero f e = refl
sum_zero (suc n) f e = omega (arith, sum_zero n f e, e n)

-- nothing changed, nothing counted
pub changed_none : (h w : ℕ) (P : Grid) → changed h w P P ≡ 0
unfolding changed
changed_none h w P = sum_zero h _ (λ y. sum_zero w _ (λ x. ap (λ b. cond b 0 1) (eq-eqb (P y x) (P y x) refl)))
