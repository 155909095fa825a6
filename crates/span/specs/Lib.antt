-- What the crate `span` means.
pub mod Fragments
pub mod Layers
pub mod Spans
pub mod Strokes
