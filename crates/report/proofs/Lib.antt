pub mod Whole
pub mod Meaning
