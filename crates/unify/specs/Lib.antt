pub mod Unify
