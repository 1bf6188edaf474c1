pub mod Sequence
pub mod Settling
pub mod Together
pub mod Loading
pub mod Whole
pub mod Stopping
pub mod Outcomes
