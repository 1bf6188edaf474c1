pub mod Unpacked
pub mod Delivering
mod Deciding
mod Resuming
