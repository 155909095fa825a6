-- What the crate `trace` means: scope paper, "Traces", the second paragraph.
pub mod Run
