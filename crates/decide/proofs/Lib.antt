pub mod Asked
pub mod Right
pub mod Answering
pub mod Agreeing
pub mod Units
pub mod Refusals
mod Comparing
mod Downward
mod Questions
pub mod Instances
