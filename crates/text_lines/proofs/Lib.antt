pub mod LinesLaws
pub mod LoopLaws
