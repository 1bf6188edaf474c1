pub mod Decimal
pub mod Hex
pub mod Lining
pub mod Settling
pub mod Printing
