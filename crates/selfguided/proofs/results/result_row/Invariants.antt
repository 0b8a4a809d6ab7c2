-- The run so far is the stamp of j results.
use Rattle.std.proofs.Common.{◌≡◌, ◌+◌, ◌*◌, pos}
use Rattle.laws.specs.Runs.{stamp}
use Rattle.standard.specs.SelfGuided as guided
use Rattle.boxes.specs.Reads.{sample_at}
use Rattle.selfguided.proofs.results.result_row.Given as goal

abbrev pub invariant-loop-j : goal.invariant-loop-j
invariant-loop-j g l = l.out ≡ stamp (λ j. pos (guided.project l.m.depth l.m.w0 l.m.w1 (16 * sample_at l.s (l.p.u + j))
    (g.A.Filter.f_of l.p l.n l.s j (sample_at l.s (l.p.u + j)))
    (g.B.Filter.f_of l.p l.n l.s j (sample_at l.s (l.p.u + j))))) l.to l.j l.initial.out
