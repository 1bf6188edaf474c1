pub mod Puts
pub mod Adds
