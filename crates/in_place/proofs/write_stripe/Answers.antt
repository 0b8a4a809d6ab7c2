-- Frame type 0 leaves the rows, which is the definition there; else the copy is made and the rows are restored from it.
use Prim.Native.Nat.{ℕ}
use mathlib.Core.Path.{sym, subst}
use native.Mathlib.Omega.{arith}
use lib.ListN.{length}
use Rattle.stripe_tests.proofs.Passed.{StripePassed}
use Rattle.in_place.proofs.Stripe.{untouched}
use Rattle.in_place.proofs.write_stripe.Goals as goal

pub returns-then-f-eq0 : goal.returns-then-f-eq0
returns-then-f-eq0 c = untouched c.requires c.if-f-eq0.true

pub copy_rows-requires : goal.copy_rows-requires
copy_rows-requires c = let k = c in let p = k.requires in (p.numbered, p.there, p.long, (p.typed (omega (arith, k.if-f-eq0.false))).4)

pub restore_rows-requires : goal.restore_rows-requires
restore_rows-requires c = let w = c in let k = w in let s = k in record { stripe_passed = (subst (λ (n : ℕ). StripePassed s.args.f s.args.s s.args.table.now s.args.edges.now s.args.plane.now (length s.args.scratch.now) n) (sym w.copy_rows.auto.copy) s.requires, omega (arith, k.if-f-eq0.false)); copied = w.copy_rows.ensures }
