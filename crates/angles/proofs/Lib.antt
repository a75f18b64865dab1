pub mod AngleLaws
