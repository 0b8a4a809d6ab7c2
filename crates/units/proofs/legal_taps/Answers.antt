-- The third range counts where the first two hold.
use Rattle.std.proofs.Common.{rules}
use Rattle.standard.specs.Units.{legal_taps}
use Rattle.units.proofs.legal_taps.Goals.{then-contains, else-contains}
use Rattle.units.proofs.legal_taps.Goals as goal

pub returns-then-contains-2 : goal.returns-then-contains-2
unfolding legal_taps
returns-then-contains-2 c = elim c.if-contains.branch [ then-contains w ↦ search rules | else-contains w ↦ cc ]

pub returns-else-contains-2 : goal.returns-else-contains-2
unfolding legal_taps
returns-else-contains-2 c = elim c.if-contains.branch [ then-contains w ↦ search rules | else-contains w ↦ search rules ]
