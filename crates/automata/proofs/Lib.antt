pub mod Agreement
pub mod Again
pub mod Reached
