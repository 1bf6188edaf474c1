pub mod Agrees
pub mod RoundTrip
pub mod Computes
pub mod Refusals
mod Whole
