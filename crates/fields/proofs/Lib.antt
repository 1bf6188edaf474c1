pub mod Patching
pub mod Appending
pub mod Numbering
pub mod Putting
pub mod Writing
