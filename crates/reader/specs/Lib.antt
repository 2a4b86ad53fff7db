pub mod Read
pub mod ReadLaws
pub mod TakenLaws
pub mod Theorems
