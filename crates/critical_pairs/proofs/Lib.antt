pub mod Pairing
pub mod Placing
