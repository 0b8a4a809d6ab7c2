-- A call of `restore_stripe` by its arguments, the slices that it is lent, and its promise on the answer and on what it leaves in them.
use Rattle.std.specs.Prelude.{◌≡◌, List, ℕ, ℤ, Result}
use Rattle.standard.specs.declared.Frame.{Frame}
use Rattle.standard.specs.declared.Refusal.{Refusal}
use Rattle.standard.specs.Answers.{of_stored}
use Rattle.standard.specs.Calls.{Lent, StripeCall, after_stripe, stripe_call_number}

abbrev pub call_of : Frame → ℕ → List ℤ → List ℤ → ℕ → ℕ → StripeCall
call_of f s table E scratch copy = record { frame = f; table = table; edges = E; stripe = s; scratch = scratch; copy = copy }

abbrev pub lent : List ℤ → List ℕ → Lent
lent P marks = record { plane = P; marks = marks }

-- the answer's number, the plane and the marks afterwards: each by an equation
abbrev pub Promised : StripeCall → Lent → Result (Unit {0}) Refusal → Lent → Type 0
Promised c st r after = (of_stored r ≡ stripe_call_number c st) × (after.plane ≡ (after_stripe c st).plane) × (after.marks ≡ (after_stripe c st).marks)
