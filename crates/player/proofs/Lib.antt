-- The laws of a replay, and of a trace that arrives in chunks.
pub mod Replays
pub mod Arrivals
