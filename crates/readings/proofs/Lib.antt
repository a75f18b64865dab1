pub mod AloneLaws
pub mod SheetLaws
pub mod ComparedLaws
