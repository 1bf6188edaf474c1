pub mod Writing
pub mod Answering
