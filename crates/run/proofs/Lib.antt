mod Running
pub mod Begun
