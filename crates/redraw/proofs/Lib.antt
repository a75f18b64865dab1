pub mod RedrawLaws
pub mod StepsLaws
pub mod FormatLaws
