-- Each return is the number of the first test that holds, at the count of stripes that the callees ensure.
use mathlib.Core.Path.{◌≡◌, ◌∙◌, ap}
use Rattle.standard.specs.Answers.{refusal_number}
use mathlib.Core.Bool.{Bool}
use mathlib.Core.List.{List}
use Rattle.standard.specs.declared.Frame.{Frame}
use Prim.Native.Nat.{ℕ, ◌<◌}
use native.Mathlib.Omega.{arith}
use borrow.Author.Tests.{eq-eqb, ne_eqb, le-leb, lt-leb}
use Rattle.laws.specs.Congruence.{ap2}
use Rattle.standard.specs.Stripes as defined
use Rattle.standard.specs.Refusals.{no12, plane_height, sub_y_of}
use Rattle.stripe_tests.proofs.Laws.{here, marks_long, past, told}
use Rattle.stripe_tests.proofs.mark_tests.Goals as goal

-- the count of stripes
abbrev count : Frame → ℕ
count f = defined.stripes (sub_y_of f) (plane_height f)

marks_is : (f : Frame) (marks : List ℕ) {n : ℕ} {b : Bool} → n ≡ count f → b ≡ no12 n marks → b ≡ no12 (count f) marks
marks_is f marks p q = q ∙ ap (λ (n : ℕ). no12 n marks) p

pub returns-then-bad_marks : goal.returns-then-bad_marks
unfolding refusal_number
returns-then-bad_marks c =
    let n = c.stripes-n.ensures ∙ ap2 defined.stripes c.sub_y.ensures.value c.height.ensures.value in
    here _ _ _ (told (marks_is c.args.p.frame c.args.marks.now n c.bad_marks.ensures) c.if-bad_marks.true)

pub returns-then-n-s : goal.returns-then-n-s
unfolding refusal_number
returns-then-n-s c =
    let n = c.stripes-n.ensures ∙ ap2 defined.stripes c.sub_y.ensures.value c.height.ensures.value in
    let w = told (marks_is c.args.p.frame c.args.marks.now n c.bad_marks.ensures) c.if-bad_marks.false in
    past _ _ _ _ w (here _ _ _ (le-leb (count c.args.p.frame) c.args.s (omega (arith, c.if-n-s.true, n))))

pub bounds-marks-s : goal.bounds-marks-s
bounds-marks-s c =
    let n = c.stripes-n.ensures ∙ ap2 defined.stripes c.sub_y.ensures.value c.height.ensures.value in
    let w = told (marks_is c.args.p.frame c.args.marks.now n c.bad_marks.ensures) c.if-bad_marks.false in
    omega (arith, c.if-n-s.false, n, marks_long _ _ w)

pub returns-then-marks-s-eq1 : goal.returns-then-marks-s-eq1
unfolding refusal_number
returns-then-marks-s-eq1 c =
    let n = c.stripes-n.ensures ∙ ap2 defined.stripes c.sub_y.ensures.value c.height.ensures.value in
    let w = told (marks_is c.args.p.frame c.args.marks.now n c.bad_marks.ensures) c.if-bad_marks.false in
    let t : c.args.s < count c.args.p.frame = omega (arith, c.if-n-s.false, n) in
    past _ _ _ _ w (past _ _ _ _ (lt-leb _ _ t) (here _ _ _ (eq-eqb _ _ c.if-marks-s-eq1.true)))

pub last_tests-requires : goal.last_tests-requires
last_tests-requires c =
    let n = c.stripes-n.ensures ∙ ap2 defined.stripes c.sub_y.ensures.value c.height.ensures.value in
    (c.requires.0, omega (arith, c.if-n-s.false, n), c.requires.1, c.requires.2)

pub returns : goal.returns
returns c =
    let n = c.stripes-n.ensures ∙ ap2 defined.stripes c.sub_y.ensures.value c.height.ensures.value in
    let w = told (marks_is c.args.p.frame c.args.marks.now n c.bad_marks.ensures) c.if-bad_marks.false in
    let t : c.args.s < count c.args.p.frame = omega (arith, c.if-n-s.false, n) in
    past _ _ _ _ w (past _ _ _ _ (lt-leb _ _ t) (past _ _ _ _ (ne_eqb _ _ c.if-marks-s-eq1.false) c.last_tests.ensures))
