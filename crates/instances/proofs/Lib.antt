pub mod Instances
pub mod Unifying
