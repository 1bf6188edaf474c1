pub mod Listing
pub mod Layouts
pub mod Changes
mod Parts
mod Filling
mod Shifting
mod Reading
