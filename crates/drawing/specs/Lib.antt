-- What the crate `drawing` promises.
pub mod Contract
