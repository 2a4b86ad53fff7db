pub mod Policy
pub mod Reading
pub mod Rewriting
pub mod Passing
pub mod Longest
