-- Traces as bytes: scope paper, "Traces", the first and the third paragraph.
pub mod Bytes
pub mod Traces
pub mod Recording
