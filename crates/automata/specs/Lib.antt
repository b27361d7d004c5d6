pub mod Cores
pub mod Sets
pub mod Sheets
pub mod Steps
