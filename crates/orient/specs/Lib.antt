pub mod Seen
pub mod Orients
