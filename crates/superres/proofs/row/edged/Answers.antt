-- Three runs, end to end.
use Rattle.superres.proofs.Edges.{joined}
use Rattle.superres.proofs.row.edged.Goals as goal

pub returns : goal.returns
returns c = let k = c.cut-c in joined c.args.src.now c.args.from c.args.b.q0 c.args.b.need c.args.last k.result.left k.result.at k.result.mid k.result.right k.ensures _ _ _ _ c.repeat_narrow.ensures c.narrow_run.ensures c.repeat_narrow-2.ensures
