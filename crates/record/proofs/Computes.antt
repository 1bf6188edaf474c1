-- One name for the definitions of reading a record, and all that they call: a proof that computes with them writes `unfolding record_computes`.
-- Assumes nothing.
-- Read first: items/proofs/Computes.
use Rattle.items.proofs.Computes.{items_compute}
use Rattle.record.specs.Record

unfoldable pub record_computes : Unit {0}
unfolding items_compute Record.listed_end Record.read_end Record.read_units Record.nothing_behind Record.last_field Record.read_record
record_computes = tt
