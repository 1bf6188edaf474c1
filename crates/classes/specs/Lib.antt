pub mod Arena
pub mod Steps
pub mod Unique
pub mod Read
