-- The laws of read-back.
pub mod Backwards
