pub mod Stops
pub mod Forms
pub mod Over
pub mod Answers
