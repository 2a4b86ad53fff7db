pub mod Putting
pub mod PuttingLaws
