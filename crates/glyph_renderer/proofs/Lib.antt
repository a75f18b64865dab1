pub mod RectangleLaws
pub mod BoxLaws
