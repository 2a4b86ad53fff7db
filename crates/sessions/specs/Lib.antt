pub mod Sessions
pub mod SessionsLaws
pub mod Theorems
