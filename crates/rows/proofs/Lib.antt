pub mod InkLaws
pub mod StateLaws
pub mod PartLaws
