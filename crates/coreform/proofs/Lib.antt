pub mod Drafting
pub mod Following
pub mod Memory
pub mod Right
