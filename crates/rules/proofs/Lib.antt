pub mod Equal
pub mod Growth
pub mod Kept
