pub mod Readings
pub mod Ground
