pub mod Spans
pub mod SpanList
pub mod MarkLaws
