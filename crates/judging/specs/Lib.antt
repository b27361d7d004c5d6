pub mod Columns
pub mod Judging
pub mod Refusals
pub mod Tabled
pub mod Truths
pub mod Turns
