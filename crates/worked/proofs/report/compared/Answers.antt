-- The count of the places where the two differ.
use mathlib.Core.Path.{◌∙◌, ap}
use Rattle.worked.specs.Work.{differing, report_of}
use Rattle.worked.proofs.report.compared.Goals as goal

pub report-requires : goal.report-requires
report-requires c = c.requires.0

pub returns : goal.returns
unfolding differing
returns c = c.report.ensures ∙ ap (report_of c.args.f c.args.changed) c.count_changed-differs.ensures
