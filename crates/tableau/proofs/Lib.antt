pub mod Begun
pub mod Gathered
pub mod Planned
pub mod Stepped
pub mod Turns
pub mod Walking
pub mod Written
