pub mod Ink
pub mod Ones
