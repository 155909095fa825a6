-- What a write means: scope paper, "Numbers returned", "How one pixel is made" and "Modes", and of "Registers" what a write leaves in them.
pub mod Modes
pub mod Lines
pub mod Refusal
pub mod Writes
pub mod Sequences
pub mod Numbers
