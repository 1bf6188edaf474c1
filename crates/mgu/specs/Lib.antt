pub mod Result
pub mod Written
