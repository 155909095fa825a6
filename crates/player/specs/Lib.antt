-- What the crate `player` means.
pub mod Playing
pub mod Arriving
