-- The listing holds a2 at each place.
use Rattle.boxes.proofs.TableLaws.{listing_table}
use Rattle.boxes.proofs.table.A2.new.Goals as goal

pub invariant_of-result : goal.invariant_of-result
invariant_of-result c = record { filled = listing_table c.table.ensures }
