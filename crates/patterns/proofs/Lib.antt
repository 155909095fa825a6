-- The laws of the words that a span takes.
pub mod Held
pub mod Chosen
