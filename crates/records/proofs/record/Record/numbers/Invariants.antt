-- The numbers so far are the entries that are read.
use Rattle.std.proofs.Common.{◌≡◌, ◌++◌, take, length}
use Rattle.records.specs.Left.{left}
use Rattle.records.proofs.record.Record.numbers.Given as goal

abbrev pub invariant-loop-k : goal.invariant-loop-k
invariant-loop-k g l = (length l.numbers ≡ length l.initial.numbers) × (left l.initial.self ≡ take l.k l.numbers ++ left l.self)
