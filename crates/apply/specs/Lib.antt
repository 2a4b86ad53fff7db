pub mod Applying
pub mod ApplyLaws
pub mod Theorems
