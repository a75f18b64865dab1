pub mod Drawing
pub mod Checks
