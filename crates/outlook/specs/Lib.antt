pub mod Outlook
pub mod OutlookLaws
pub mod AnswerLaws
pub mod Theorems
