pub mod Apart
pub mod Solving
pub mod Meeting
pub mod Testing
