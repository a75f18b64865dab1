pub mod MeasuredLaws
pub mod LineCases
