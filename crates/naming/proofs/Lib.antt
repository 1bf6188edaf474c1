pub mod Collecting
pub mod Renaming
pub mod Few
pub mod Pairs
pub mod Finding
pub mod Filling
