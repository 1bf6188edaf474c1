pub mod Moving
pub mod Layers
