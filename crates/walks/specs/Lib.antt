-- What the crate `walks` promises of a walk.
pub mod Reach
pub mod Contract
