-- The laws of typed numbers.
pub mod Digits
