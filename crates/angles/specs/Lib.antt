pub mod AngleText
