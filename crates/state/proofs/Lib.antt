pub mod Steady
mod Changing
mod Logging
mod PuttingBack
pub mod Written
