pub mod CopyLaws
pub mod DifferenceLaws
