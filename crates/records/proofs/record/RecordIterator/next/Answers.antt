-- Two bytes are an entry, and fewer are none.
use Rattle.std.proofs.Common.{rules, ◌∙◌, sym, ap, ◌∷◌, length, slice_range, arith}
use Rattle.records.specs.Entries.{entries}
use Rattle.records.proofs.Entries.{entries_none, entries_more}
use Rattle.records.proofs.record.RecordIterator.next.Goals as goal

pub returns-in_default-clause-steps : goal.returns-in_default-clause-steps
returns-in_default-clause-steps c = let none = entries_none c.args.self.now.bytes.now c.in_default.len_below in (none, none)

pub returns-clause-steps : goal.returns-clause-steps
returns-clause-steps c =
    let bs = c.args.self.now.bytes.now in
    entries_more bs c.in-len2-up.len_at_least ∙ ap (λ n. n ∷ entries (slice_range bs 2 (length bs))) (sym c.from_le_bytes.ensures)

pub returns-clause-goes : goal.returns-clause-goes
returns-clause-goes c =
    let fewer = ap length (returns-clause-steps c) in
    record {
      on = λ ends. search (rules, arith);
      keeps = search rules;
      rests = λ ends. search rules;
    }
