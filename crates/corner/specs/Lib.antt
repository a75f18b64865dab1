pub mod Whole
pub mod Corners
