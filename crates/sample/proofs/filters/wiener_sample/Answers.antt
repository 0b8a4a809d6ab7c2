-- The one result of the window, whose places are those of the definition.
use mathlib.Core.Path.{refl, ◌∙◌, ap}
use lib.IntN.{pos}
use mir.Syntax.{w32}
use Rattle.laws.specs.ReadBack.{returned}
use Rattle.sample.proofs.Laws.{only, wiener_seen}
use Rattle.sample.proofs.filters.wiener_sample.Goals as goal

pub returns : goal.returns
returns c = returned w32 c.result-1.given (only _ _ _ c.wiener_window.ensures refl ∙ ap pos (wiener_seen _ _ _))
