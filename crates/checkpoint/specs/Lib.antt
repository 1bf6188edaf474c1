pub mod Checkpoint
pub mod Resume
pub mod Wrote
