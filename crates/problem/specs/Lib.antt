pub mod Stops
pub mod Reasons
pub mod Problem
pub mod Parser
pub mod Over
