pub mod Handed
pub mod Reading
pub mod Fields
pub mod Pairs
pub mod Parses
pub mod Sides
pub mod Laid
pub mod Refusals
