-- Where a test gives its number, that number and the slices as they were; else the restored stripe and its mark.
use mathlib.Core.Path.{refl, sym, ◌∙◌}
use native.Mathlib.Omega.{arith}
use lib.ListN.{length}
use Rattle.std.proofs.lemmas.Result.{err_from_is_err_and}
use Rattle.edges.proofs.Numbers.{refused}
use Rattle.stripe_tests.proofs.Passed.{one_mark_each, stripe_passed}
use Rattle.in_place.proofs.Answers.{marks_done, marks_refused, number_is, plane_done, plane_refused}
use Rattle.in_place.proofs.restore_stripe.Goals as goal

pub write_stripe-requires : goal.write_stripe-requires
write_stripe-requires c = stripe_passed c.args.f c.args.s c.args.table.now c.args.edges.now c.args.plane.now c.args.marks.now _ _ (sym c.in_ok-stripe_tests.ensures)

pub bounds-marks-s : goal.bounds-marks-s
bounds-marks-s c =
    let zero = sym c.in_ok-stripe_tests.ensures in
    let there = (stripe_passed c.args.f c.args.s c.args.table.now c.args.edges.now c.args.plane.now c.args.marks.now (length c.args.scratch.now) (length c.args.copy.now) zero).there in
    let each = one_mark_each c.args.f c.args.s c.args.table.now c.args.edges.now c.args.plane.now c.args.marks.now (length c.args.scratch.now) (length c.args.copy.now) zero in
    omega (arith, there, each)

pub returns-in_err-stripe_tests : goal.returns-in_err-stripe_tests
returns-in_err-stripe_tests c =
    let e = c.in_err-stripe_tests.ensures ∙ number_is c.args.f c.args.s c.args.table.now c.args.edges.now c.args.plane.now c.args.marks.now (length c.args.scratch.now) (length c.args.copy.now) in
    let no = refused _ _ e in
    let r = err_from_is_err_and c.from_residual.result c.from_residual.ensures.1 in
    record {
      promised = (rw (r.1, r.2) e, plane_refused c.args.f c.args.s c.args.table.now c.args.edges.now c.args.plane.now c.args.marks.now (length c.args.scratch.now) (length c.args.copy.now) no, marks_refused c.args.f c.args.s c.args.table.now c.args.edges.now c.args.plane.now c.args.marks.now (length c.args.scratch.now) (length c.args.copy.now) no);
      scratch_unchanged = λ _. (refl, refl);
    }

pub returns : goal.returns
returns c =
    let z = sym (number_is c.args.f c.args.s c.args.table.now c.args.edges.now c.args.plane.now c.args.marks.now (length c.args.scratch.now) (length c.args.copy.now)) ∙ sym c.in_ok-stripe_tests.ensures in
    record {
      promised = (sym z, c.write_stripe.ensures ∙ plane_done c.args.f c.args.s c.args.table.now c.args.edges.now c.args.plane.now c.args.marks.now (length c.args.scratch.now) (length c.args.copy.now) z, marks_done c.args.f c.args.s c.args.table.now c.args.edges.now c.args.plane.now c.args.marks.now (length c.args.scratch.now) (length c.args.copy.now) z);
      scratch_unchanged = λ no. absurd (no z);
    }
