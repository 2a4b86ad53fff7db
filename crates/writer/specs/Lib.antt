pub mod Writing
pub mod SectionsLaws
pub mod WritingLaws
pub mod AnswerLaws
pub mod Theorems
