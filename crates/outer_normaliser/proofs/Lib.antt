mod Looking
mod Stepping
mod Returning
mod Reaching
pub mod Opening
