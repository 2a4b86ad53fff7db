pub mod Passes
pub mod PassesLaws
pub mod RewrittenLaws
pub mod TurnLaws
