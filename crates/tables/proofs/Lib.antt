-- The laws of fragments reduced to two bytes, and of the words that hold eight of them.
pub mod Reducing
pub mod Copying
pub mod Quarters
