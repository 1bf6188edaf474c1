pub mod Inside
pub mod Settled
