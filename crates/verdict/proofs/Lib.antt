pub mod Judgments
pub mod Lines
pub mod Logged
pub mod Outcomes
pub mod Readings
pub mod Translated
pub mod Whole
