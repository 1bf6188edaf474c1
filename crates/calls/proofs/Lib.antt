pub mod Comparing
pub mod Unifying
pub mod Parts
