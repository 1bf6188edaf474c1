pub mod Disagree
pub mod Correct
pub mod Unique
pub mod Limits
