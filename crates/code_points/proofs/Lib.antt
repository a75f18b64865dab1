pub mod DigitLaws
pub mod WrittenLaws
