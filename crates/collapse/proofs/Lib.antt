pub mod Rows
mod Siftings
