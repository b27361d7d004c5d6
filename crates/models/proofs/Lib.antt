pub mod Orderly
pub mod Parted
pub mod Unrolled
