pub mod Rows
pub mod Sifting
