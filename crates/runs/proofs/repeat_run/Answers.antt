-- The part that was filled is the run.
use Rattle.laws.specs.Parts.{part_filled}
use Rattle.runs.proofs.repeat_run.Goals as goal

pub returns : goal.returns
returns g c = part_filled _ _ _ _ _ c.requires.n_in_bounds (c.fill.ensures.after c.requires.copied.1)
