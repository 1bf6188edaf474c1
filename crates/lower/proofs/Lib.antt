pub mod Wholes
pub mod Lowers
pub mod Instances
