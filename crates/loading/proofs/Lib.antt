mod Singles
mod Equations
mod Whole
