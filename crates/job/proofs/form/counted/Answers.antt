-- A count that is read is the definition's; where the bytes end before it, they are fewer than any counts would say.
use native.Mathlib.Omega.{arith}
use mathlib.Core.Path.{◌≡◌, ◌∙◌, sym, ap}
use Prim.Native.Nat.{ℕ, ◌+◌}
use mathlib.Core.List.{List}
use Rattle.laws.specs.Congruence.{ap2, ap4}
use Rattle.standard.specs.Answers.{job_refusal_number}
use Rattle.standard.specs.Refusals.{wide}
use Rattle.standard.specs.Job.{unit_count, deblocked_count, cdef_count, sections_of}
use Rattle.job.proofs.Laws.{other_frame, other_count, counts_done}
use Rattle.job.proofs.form.counted.Goals as goal

-- each count is read past the section before it, so it is the definition's where that section's count is
deblocked_are : (b : List ℕ) {u d : ℕ} → u ≡ unit_count b → d ≡ wide b (10 + u) → d ≡ deblocked_count b
deblocked_are b p q = q ∙ ap (λ n. wide b (10 + n)) p

cdef_are : (b : List ℕ) {u d c : ℕ} → u ≡ unit_count b → d ≡ deblocked_count b → c ≡ wide b (11 + u + d) → c ≡ cdef_count b
cdef_are b p q r = r ∙ ap2 (λ m n. wide b (11 + m + n)) p q

pub returns-then-n-lt24 : goal.returns-then-n-lt24
unfolding job_refusal_number
returns-then-n-lt24 c = other_count _ (λ e. omega arith)

pub returns-then-entry-ne8 : goal.returns-then-entry-ne8
unfolding job_refusal_number
returns-then-entry-ne8 c = other_frame _ (λ e. c.if-entry-ne8.true (c.entry.ensures.0 ∙ e))

pub returns-then-n-u : goal.returns-then-n-u
unfolding job_refusal_number
returns-then-n-u c = other_count _ (λ e. omega (arith, c.entry-u.ensures.0))

pub returns-then-n-u-2 : goal.returns-then-n-u-2
unfolding job_refusal_number
returns-then-n-u-2 c = other_count _ (λ e. omega (arith, c.entry-u.ensures.0, deblocked_are c.args.bytes.now c.entry-u.ensures.0 c.entry-d.ensures.0))

pub returns-then-n-u-3 : goal.returns-then-n-u-3
unfolding job_refusal_number
returns-then-n-u-3 c = let u = c.entry-u.ensures.0 in let d = deblocked_are c.args.bytes.now u c.entry-d.ensures.0 in let e = cdef_are c.args.bytes.now u d c.entry-c.ensures.0 in other_count _ (λ p. omega (arith, c.if-n-u-3.true, u, d, e))

pub returns : goal.returns
unfolding sections_of
returns c =
    let u = c.entry-u.ensures.0 in
    let d = deblocked_are c.args.bytes.now u c.entry-d.ensures.0 in
    let e = cdef_are c.args.bytes.now u d c.entry-c.ensures.0 in
    counts_done _ (sym c.entry.ensures.0 ∙ c.if-entry-ne8.false) (omega (arith, c.if-n-u-3.false, u, d, e)) _
    (ap4 (λ f u d e. record { frame = f; units = u; deblocked = d; cdef = e }) c.frame_of.ensures u d e)
