pub mod WellFounded
pub mod Closure
pub mod Trans
pub mod Decide
pub mod Clauses
pub mod Fast
pub mod Steps
pub mod PathOrder
