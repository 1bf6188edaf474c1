pub mod Numbers
pub mod Reading
pub mod Fields
pub mod Tables
pub mod Scanned
pub mod Standing
pub mod Ordered
pub mod Refusals
