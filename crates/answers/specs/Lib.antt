pub mod Answers
pub mod Lookups
