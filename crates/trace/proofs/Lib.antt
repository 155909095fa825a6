-- The laws of the crate `trace`, and the demands over traces as theorems.
pub mod Runs
pub mod Remaining
pub mod Budgets
pub mod Demands
pub mod Turns
pub mod Rerun
pub mod Raised
pub mod Samples
