pub mod Bits
pub mod Loops
pub mod Places
pub mod Shifts
pub mod Sweeps
