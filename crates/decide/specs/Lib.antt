pub mod Decide
pub mod Answers
pub mod Asking
