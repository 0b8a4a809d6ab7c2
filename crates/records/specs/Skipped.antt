-- How many bytes before a record say how long it is.
use Rattle.std.specs.Prelude.{ℕ}
use Rattle.records.specs.declared.file.Extent.{Extent}
use Rattle.records.specs.declared.file.Extent.TheVariants.{Counted, Bytes}

abbrev pub skipped : Extent → ℕ
skipped Counted = 2
skipped (Bytes size) = 0
