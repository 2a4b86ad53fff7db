pub mod Steps
pub mod StepsLaws
pub mod Theorems
