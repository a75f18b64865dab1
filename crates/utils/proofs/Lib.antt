pub mod SpanLaws
pub mod StdLaws
