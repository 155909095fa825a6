-- The law of a turn.
pub mod Places
