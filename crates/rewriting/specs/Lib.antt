pub mod Overlap
pub mod Rewrite
pub mod Ends
pub mod Outermost
