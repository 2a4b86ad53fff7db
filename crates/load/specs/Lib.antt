pub mod Load
pub mod SkipLaws
pub mod LoadLaws
pub mod Theorems
