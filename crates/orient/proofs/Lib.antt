pub mod Bits
pub mod Seeing
pub mod Placing
mod Orienting
