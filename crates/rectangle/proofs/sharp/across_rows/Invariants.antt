-- Row by row: the rows so far hold the middle values, and one more row makes it one more.
use Prim.Native.Nat.{◌+◌}
use mathlib.Core.Path.{◌≡◌}
use Rattle.laws.specs.Rows.{rows}
use Rattle.standard.specs.Fetch as standard
use Rattle.standard.specs.Wiener.{across}
use Rattle.fetch.specs.Source.{source_cell}
use Rattle.wiener.specs.Passes.{biased}
use Rattle.rectangle.proofs.sharp.across_rows.Given as goal

abbrev pub invariant-loop-k : goal.invariant-loop-k
invariant-loop-k l = l.s ≡ rows (λ k x. biased l.v.depth (across l.v.depth l.taps.t (λ _ b. source_cell l.v.inside.now l.v.beside.now l.v.w l.v.source (standard.near l.v.h l.r.y k) (standard.near l.v.w l.r.x (x + b))) 0)) 0 l.r.w l.r.w l.k l.initial.s
