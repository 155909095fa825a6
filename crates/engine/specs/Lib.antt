-- What the crate `engine` promises of a write.
pub mod Contract
pub mod Text
pub mod Walks
