-- Of the records so far, no more disagree than there are.
use Rattle.std.proofs.Common.{◌≤◌}
use denote.Param.Always.{always_mut}
use Rattle.records.proofs.file.replay.Given as goal

abbrev pub invariant-loop : goal.invariant-loop
invariant-loop g l = (always_mut g.F.FnMut l.initial.agrees → always_mut g.F.FnMut l.agrees) × (l.tally.mismatches ≤ l.tally.records) × (l.tally.records ≤ l.counter)
