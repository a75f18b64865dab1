pub mod PairLaws
pub mod RunReadsLaws
pub mod StandsLaws
