mod WellFormed
mod Going
mod Placing
mod Places
mod Reaching
mod Inputs
