-- The laws of register reads, and the steps of a proof by hand over a lent card.
pub mod Readings
pub mod Lent
