pub mod Marks
pub mod Step
pub mod Contraction
