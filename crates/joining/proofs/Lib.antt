pub mod Rooms
pub mod Joining
