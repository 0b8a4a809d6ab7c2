-- The number of the refusal and zeros.
use mathlib.Core.Path.{sym, ◌∙◌, ap}
use Rattle.laws.specs.Congruence.{ap2, ap4}
use Rattle.standard.specs.Answers.{of_counted, no_counts}
use Rattle.host.proofs.answers.CountedNumbersFromResultCountsRefusal.from.Goals as goal

pub returns-in-Err : goal.returns-in-Err
unfolding no_counts
returns-in-Err c =
    let d = c.default.ensures in
    let zeros = ap4 (λ a b k n. record { unit_rows = a; unit_cols = b; stripes = k; rectangles = n }) d.0 d.1.0 d.1.1.0 d.1.1.1 in
    c.counts_beside-in-Err.ensures ∙ ap2 (λ k v. (k, v)) c.from.ensures zeros ∙ sym (ap of_counted c.in-Err.is)
