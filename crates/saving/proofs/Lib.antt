mod Equations
mod Putting
mod Meaning
pub mod Filling
