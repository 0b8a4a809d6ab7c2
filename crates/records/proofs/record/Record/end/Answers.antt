-- No byte is left, and so no entry.
use Rattle.std.proofs.Common.{rules, arith}
use Rattle.records.proofs.Entries.{entries_none}
use Rattle.records.proofs.record.Record.end.Goals as goal

pub returns-then-is_empty : goal.returns-then-is_empty
returns-then-is_empty c = entries_none c.args.self.bytes.now (search (rules, arith))
