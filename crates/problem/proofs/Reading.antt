-- What is read from bytes, passed on. Assumes nothing.
-- Read first: reading/proofs/Reading.
pub use Rattle.reading.proofs.Reading.{
  no_ok,
  ok_injective,
  from_bind,
  passed,
  has_below,
  below_has,
  ByteIs,
  byte_is,
  ReadsTo,
  ReadsAll,
  reads_all,
  reads,
  read_back,
  read_back_all,
}
