pub mod Errors
pub mod Reading
pub mod Strings
pub mod Patterns
