pub mod Page
pub mod Lent
pub mod PageLaws
pub mod RenderLaws
pub mod AnswerLaws
pub mod Theorems
