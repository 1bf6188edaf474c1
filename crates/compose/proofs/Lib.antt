pub mod Narrow
pub mod Single
pub mod Sweep
