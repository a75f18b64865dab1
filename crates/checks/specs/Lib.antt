pub mod Origins
pub mod Setups
