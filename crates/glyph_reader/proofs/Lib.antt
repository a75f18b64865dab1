pub mod ReadLaws
pub mod FieldLaws
