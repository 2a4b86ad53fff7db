pub mod Revising
pub mod ReviseLaws
pub mod Theorems
