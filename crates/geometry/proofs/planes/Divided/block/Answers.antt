-- The block at the plane's own numbers, legal where the tests pass.
use mathlib.Core.Path.{◌∙◌}
use Rattle.laws.specs.Congruence.{ap4}
use Rattle.geometry.proofs.Tests.{divided}
use Rattle.standard.specs.Stripes.{block}
use Rattle.geometry.proofs.planes.Divided.block.Goals as goal

pub block-requires : goal.block-requires
block-requires c = record {
  legal = rw (c.sub_y.ensures.value, c.height.ensures.value, c.width.ensures.value) (divided c.args.self).legal;
  sub_x_bound = (c.sub_x.ensures.bound, c.requires.0, c.requires.1);
}

pub returns : goal.returns
returns c = let a = c.args in
    c.block.ensures
    ∙ ap4 (λ x y h w. block x y a.self.plane.frame.unit_size h w a.row a.col)
    c.sub_x.ensures.value c.sub_y.ensures.value c.height.ensures.value c.width.ensures.value
