pub mod Reading
pub mod Partly
pub mod Texts
