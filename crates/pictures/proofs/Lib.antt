pub mod DrawingLaws
pub mod PackedLaws
