-- The laws of one pixel, over any width.
pub mod Bits
pub mod Bitwise
pub mod Below
pub mod Made
pub mod Composite
pub mod Reducing
pub mod Operations
pub mod Samples
