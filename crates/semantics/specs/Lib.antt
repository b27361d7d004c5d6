pub mod Lassos
pub mod Meaning
pub mod Rules
pub mod Solutions
