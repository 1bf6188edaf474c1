pub mod Delivering
pub mod Completing
