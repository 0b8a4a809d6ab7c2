-- The sample that the unit there restores from a view of the plane.
use Rattle.std.specs.Prelude.{List, ℕ, ℤ}
use Rattle.standard.specs.declared.Frame.{Frame}
use Rattle.rectangle.specs.declared.view.View.{View}
use Rattle.restoration.specs.Asked.{unit_shown}

abbrev pub unit_seen : Frame → List ℤ → View → ℕ → ℕ → ℤ
unit_seen f table v = unit_shown f table v.depth v.inside.now v.beside.now v.source
