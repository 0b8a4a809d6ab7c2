-- Each number by its function.
use mathlib.Core.Path.{◌∙◌}
use native.Mathlib.Omega.{arith}
use Rattle.laws.specs.Congruence.{ap2, ap3}
use Rattle.standard.specs.Stripes as defined
use Rattle.worked.specs.Work.{report_of}
use Rattle.worked.proofs.report.report.Goals as goal

pub extent-height-requires : goal.extent-height-requires
extent-height-requires c = (c.requires.sub_y, c.requires.high)

pub extent-width-requires : goal.extent-width-requires
extent-width-requires c = (c.requires.sub_x, c.requires.wide)

pub sub_of-requires : goal.sub_of-requires
sub_of-requires c = tt

pub stripes-requires : goal.stripes-requires
stripes-requires c = let p = c.requires in (omega (arith, c.sub_of.ensures, p.own_y), omega (arith, c.extent-height.ensures, p.rows), omega (arith, c.extent-height.ensures, p.rows_low))

pub returns : goal.returns
unfolding report_of
returns c = let s = c in
    ap3 (λ w h n. record { plane = s.args.f.plane; width = w; height = h; stripes = n; changed = s.args.changed; differs = s.args.differs })
    c.extent-width.ensures c.extent-height.ensures (c.stripes.ensures ∙ ap2 defined.stripes c.sub_of.ensures c.extent-height.ensures)
