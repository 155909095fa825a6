-- What the crate `answers` means.
pub mod Answers
