pub mod Ending
mod Placing
pub mod Fields
