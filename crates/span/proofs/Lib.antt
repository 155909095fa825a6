-- The bytes of a number; the laws of fragments, over any fragments at all; then of layers and spans, and of what they change.
pub mod Bytes
pub mod Painted
pub mod Drawn
pub mod Layers
pub mod Counted
pub mod Listed
pub mod Spans
pub mod Changed
pub mod ChangedSample
pub mod Patterns
