pub mod LetterLaws
pub mod DrawingLaws
pub mod FirstLineLaws
pub mod DrawnLineLaws
pub mod LineLoopLaws
pub mod RenderLaws
