pub mod Cases
pub mod Partly
