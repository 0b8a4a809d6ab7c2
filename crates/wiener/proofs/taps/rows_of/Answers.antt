-- The four taps as the code reads them fit 16 bits; the rows hold what the runs wrote.
use Rattle.wiener.proofs.TapLaws.{four_exact, four_sized, tap_rows_of}
use Rattle.wiener.proofs.taps.rows_of.Goals as goal

pub tap_rows-requires-clause-sized : goal.tap_rows-requires-clause-sized
tap_rows-requires-clause-sized c = four_sized c.requires.small (four_exact c.requires.small)

pub returns : goal.returns
returns c = tap_rows_of _ _ _ (four_exact c.requires.small) c.tap_rows.ensures.tr_after c.requires.w_bound c.told-tr
