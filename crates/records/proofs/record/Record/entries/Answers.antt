-- The bytes are cut at an entry.
use Rattle.std.proofs.Common.{◌∙◌, ap, sym, ◌++◌, length}
use Rattle.records.specs.Entries.{entries}
use Rattle.records.proofs.Entries.{entries_append, entries_length}
use Rattle.records.proofs.record.Record.entries.Goals as goal

pub returns : goal.returns
returns c =
    let parts = c.in_ok-split.ensures.parts in
    let front = c.new.result.bytes.now in
    let rest = c.split.new.self.bytes.now in
    let long = ap length c.new.ensures ∙ parts.1 in
    let cut = parts.0 ∙ ap (λ l. l ++ rest) (sym c.new.ensures) in
    (ap entries cut ∙ entries_append c.args.n front rest long, entries_length c.args.n front long)
