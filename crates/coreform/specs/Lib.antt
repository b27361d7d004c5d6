pub mod Drafts
pub mod Forms
pub mod Recipes
pub mod Remembered
pub mod Writing
