pub mod Back
pub mod Fill
pub mod Noted
pub mod Operators
pub mod Passes
pub mod Tabled
