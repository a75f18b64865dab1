pub mod Offsets
pub mod Ranges
