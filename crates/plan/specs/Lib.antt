-- The plan of a write.
pub mod Plan
