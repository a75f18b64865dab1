pub mod BitWriteLaws
pub mod RowLaws
pub mod ClampLaws
pub mod FillLaws
pub mod PartLaws
