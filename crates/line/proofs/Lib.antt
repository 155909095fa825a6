-- The laws of traces that arrive over a serial line, and the theorems about their reader.
pub mod Steps
pub mod Kept
pub mod Joining
pub mod Units
pub mod Answers
pub mod Turns
pub mod Arriving
pub mod Rules
pub mod Accepted
pub mod Demands
pub mod Raised
pub mod Samples
