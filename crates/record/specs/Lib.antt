pub mod Record
pub mod Reader
