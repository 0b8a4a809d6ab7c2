-- What is left to be read of a record.
use Rattle.std.specs.Prelude.{ℕ, List}
use Rattle.records.specs.Entries.{entries}
use Rattle.records.specs.declared.record.Record.{Record}

abbrev pub left : Record → List ℕ
left r = entries r.bytes.now
