-- The rectangle at the plane's own numbers, legal where the tests pass.
use mathlib.Core.Path.{◌∙◌}
use Rattle.laws.specs.Congruence.{ap3}
use Rattle.geometry.proofs.Tests.{divided}
use Rattle.standard.specs.Stripes.{rectangle}
use Rattle.geometry.proofs.planes.Divided.rectangle.Goals as goal

pub rectangle_at-requires : goal.rectangle_at-requires
rectangle_at-requires c = record {
  legal = rw (c.sub_y.ensures.value, c.height.ensures.value, c.width.ensures.value) (divided c.args.self).legal;
  index_bound = rw (c.sub_y.ensures.value, c.height.ensures.value, c.width.ensures.value) c.requires;
}

pub returns : goal.returns
returns c = let a = c.args in
    c.rectangle_at.ensures
    ∙ ap3 (λ s h w. rectangle s a.self.plane.frame.unit_size h w a.index) c.sub_y.ensures.value c.height.ensures.value c.width.ensures.value
