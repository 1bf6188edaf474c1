mod Holding
mod Steady
mod Taking
mod Making
mod Parts
mod Whole
