pub mod Word
pub mod WordLaws
