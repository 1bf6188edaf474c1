pub mod Ranges
pub mod Solution
pub mod Walks
pub mod Joining
pub mod Closing
pub mod Filled
