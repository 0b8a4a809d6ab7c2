-- Each number is stored at the end of those before it.
use Rattle.std.proofs.Common.{◌∙◌, ap, sym, ◌++◌, ◌∷◌, [], take, arith}
use Rattle.std.proofs.lemmas.List.{take_more_set, length-set, length-replicate, take_all, append_assoc}
use Rattle.records.specs.Left.{left}
use Rattle.records.proofs.record.Record.numbers.Goals as goal

pub loop-k-preserved : goal.loop-k-preserved
loop-k-preserved g c =
    let v = c.in_ok-numbers.field-0 in
    let k = c.loop-k.k in
    let numbers = c.loop-k.numbers in
    let rest = left c.number.new.self in
    let long = c.loop-k.invariant.0 ∙ length-replicate g.row.N 0 in
    let stored = take_more_set numbers k v (omega (arith, long, c.loop-k-test.true)) in
    let read = c.loop-k.invariant.1 ∙ ap (λ l. take k numbers ++ l) c.in_ok-numbers.ensures.ok in
    (length-set numbers k v ∙ c.loop-k.invariant.0, read ∙ sym (append_assoc (take k numbers) (v ∷ []) rest) ∙ ap (λ l. l ++ rest) (sym stored))

pub returns : goal.returns
returns g c =
    let numbers = c.loop-k.numbers in
    let long = c.loop-k.invariant.0 ∙ length-replicate g.row.N 0 in
    c.loop-k.invariant.1 ∙ ap (λ l. l ++ left c.loop-k.self) (take_all c.loop-k.k numbers (omega (arith, long, c.loop-k-test.false)))
