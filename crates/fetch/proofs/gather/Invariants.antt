-- Row by row: the rows so far are the window's, and one more gathered row makes it one more.
use mathlib.Core.Path.{◌≡◌}
use lib.ListN.{get_or}
use lib.IntN.{pos}
use Rattle.laws.specs.Rows.{rows}
use Rattle.standard.specs.Fetch as standard
use Rattle.fetch.specs.Source.{source_row}
use Rattle.fetch.proofs.gather.Given as goal

abbrev pub invariant-loop-k : goal.invariant-loop-k
invariant-loop-k l = l.dst ≡ rows (λ k j. get_or (source_row l.inside l.beside l.w l.r (standard.near l.h l.y0 k)) (standard.near l.w l.x0 j) (pos 0)) 0 l.m l.m l.k l.initial.dst
