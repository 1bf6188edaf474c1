pub mod Ending
pub mod Firsts
pub mod Starting
pub mod Verdict
pub mod Laying
pub mod Writing
pub mod Instance
