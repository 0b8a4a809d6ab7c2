-- Each array so far holds at most 520 records.
use Rattle.std.proofs.Common.{◌*◌, ◌≤◌}
use Rattle.replay_samples.proofs.all_samples.Given as goal

abbrev pub invariant-loop : goal.invariant-loop
invariant-loop l = (l.all.mismatches ≤ l.all.records) × (l.all.records ≤ 520 * l.counter)
