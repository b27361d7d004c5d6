pub mod Law
pub mod Logs
pub mod Worked
