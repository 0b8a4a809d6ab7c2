-- Each return is the number of the first test that holds.
use mathlib.Core.Path.{◌∙◌, ap}
use Rattle.std.proofs.lemmas.Result.{err_from_is_err_and}
use Rattle.standard.proofs.Answers.{refused}
use Rattle.standard.specs.Answers.{refusal_number}
use Rattle.standard.specs.Refusals.{first}
use Rattle.frames.proofs.Legal.{given_between}
use Rattle.stripe_tests.specs.Parts.{slice_tests}
use Rattle.stripe_tests.proofs.Laws.{here, past, past_plane, told}
use Rattle.stripe_tests.proofs.stripe_tests.Goals as goal

pub returns-then-bad_depth : goal.returns-then-bad_depth
unfolding refusal_number
returns-then-bad_depth c = here _ _ _ (told c.bad_depth.ensures c.if-bad_depth.true)

pub returns-then-bad_plane : goal.returns-then-bad_plane
unfolding refusal_number
returns-then-bad_plane c = past _ _ _ _ (told c.bad_depth.ensures c.if-bad_depth.false) (here _ _ _ (told c.bad_plane.ensures c.if-bad_plane.true))

pub returns-then-bad_frame_type : goal.returns-then-bad_frame_type
unfolding refusal_number
returns-then-bad_frame_type c = past _ _ _ _ (told c.bad_depth.ensures c.if-bad_depth.false) (past _ _ _ _ (told c.bad_plane.ensures c.if-bad_plane.false) (here _ _ _ (told c.bad_frame_type.ensures c.if-bad_frame_type.true)))

pub returns-in_err-p : goal.returns-in_err-p
returns-in_err-p c =
    let p = err_from_is_err_and c.from_residual.result c.from_residual.ensures.1 in
    rw (p.1, p.2) (past _ _ _ _ (told c.bad_depth.ensures c.if-bad_depth.false) (given_between c.args.f _ _ _ (told c.bad_frame_type.ensures c.if-bad_frame_type.false) (refused _) c.in_err-p.ensures.number))

pub returns-then-typed_size : goal.returns-then-typed_size
unfolding refusal_number
returns-then-typed_size c =
    past _ _ _ _ (told c.bad_depth.ensures c.if-bad_depth.false)
    (past_plane c.in_ok-p.p c.args.f c.in_ok-p.ensures.passed _ _ _ (told c.bad_frame_type.ensures c.if-bad_frame_type.false) (here _ _ _ (told c.typed_size.ensures c.if-typed_size.true)))

pub returns : goal.returns
returns c =
    let a = c.args in
    past _ _ _ _ (told c.bad_depth.ensures c.if-bad_depth.false)
    (past_plane c.in_ok-p.p a.f c.in_ok-p.ensures.passed _ _ _ (told c.bad_frame_type.ensures c.if-bad_frame_type.false)
    (past _ _ _ _ (told c.typed_size.ensures c.if-typed_size.false) (c.slice_tests.ensures ∙ ap (λ g. first (slice_tests g a.s a.edges.now a.plane.now a.scratch a.copy a.table.now a.marks.now)) c.in_ok-p.ensures.passed)))
