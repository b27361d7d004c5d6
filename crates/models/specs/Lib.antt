pub mod EdgeWords
pub mod Faults
pub mod PackedWords
pub mod Scans
pub mod Soundness
