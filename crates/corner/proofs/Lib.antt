pub mod AlikeLaws
pub mod NearLaws
pub mod NearTexts
pub mod WholeLaws
pub mod CornerLaws
