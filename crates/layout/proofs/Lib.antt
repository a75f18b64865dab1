pub mod RangeLaws
pub mod LoopLaws
pub mod SumLoopLaws
pub mod MeasureLaws
