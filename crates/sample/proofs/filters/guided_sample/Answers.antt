-- The one result of the window; the row counts by its parity.
use mathlib.Core.Path.{refl, ◌∙◌, ap}
use native.Mathlib.Omega.{arith}
use lib.IntN.{pos}
use mir.Syntax.{w32}
use Rattle.laws.specs.ReadBack.{returned}
use Rattle.sample.proofs.Laws.{only, one_row, guided_seen}
use Rattle.sample.proofs.filters.guided_sample.Goals as goal

pub selfguided_window-requires : goal.selfguided_window-requires
selfguided_window-requires c = let p = c.requires in record { le_w = (omega arith, omega arith, omega arith, omega arith, omega arith, p.0); samples = (p.2, one_row _ refl, p.1) }

pub returns : goal.returns
returns c = returned w32 c.result-1.given (only _ _ _ c.selfguided_window.ensures refl ∙ ap pos (guided_seen _ _ _ _ _ refl))
