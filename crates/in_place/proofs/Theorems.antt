-- No second answer, plane or marks keep the promise of `restore_stripe`; a refused call leaves plane and marks as they were.
use mathlib.Core.Path.{◌≡◌, sym, ◌∙◌}
use borrow.Author.Tests.{ne_eqb}
use Rattle.std.specs.Prelude.{Result}
use Rattle.standard.specs.declared.Refusal.{Refusal}
use Rattle.standard.specs.Calls.{Lent, StripeCall, after_stripe, stripe_call_number}
use Rattle.standard.proofs.Answers.{stored_once}
use Rattle.in_place.specs.Call.{Promised}

pub stripe_once : (c : StripeCall) (st : Lent) (r s : Result (Unit {0}) Refusal) (a b : Lent) → Promised c st r a → Promised c st s b → (r ≡ s) × (a.plane ≡ b.plane) × (a.marks ≡ b.marks)
stripe_once c st r s a b p q = (stored_once r s (p.0 ∙ sym q.0), p.1 ∙ sym q.1, p.2 ∙ sym q.2)

pub refused_as_it_was : (c : StripeCall) (st : Lent) → (stripe_call_number c st ≡ 0 → ⊥) → after_stripe c st ≡ st
unfolding after_stripe
refused_as_it_was c st h = rw (ne_eqb (stripe_call_number c st) 0 h)
