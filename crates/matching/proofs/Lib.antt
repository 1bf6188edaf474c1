pub mod Celled
pub mod Advancing
pub mod Walking
pub mod Clearing
pub mod Filling
pub mod Replacing
