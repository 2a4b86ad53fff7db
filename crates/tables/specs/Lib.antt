pub mod Judging
pub mod ListsLaws
pub mod HeldLaws
pub mod PartsLaws
pub mod JudgeLaws
pub mod FilledLaws
pub mod Theorems
