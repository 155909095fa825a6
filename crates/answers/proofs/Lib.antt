-- The laws of a run's answer.
pub mod Runs
