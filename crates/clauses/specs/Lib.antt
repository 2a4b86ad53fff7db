pub mod Walking
pub mod WalkingLaws
pub mod WalkedLaws
pub mod LoopLaws
pub mod Theorems
