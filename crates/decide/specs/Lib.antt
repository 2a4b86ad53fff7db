pub mod Decide
pub mod DecideLaws
