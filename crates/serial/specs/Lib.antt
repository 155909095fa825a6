-- What the steps of the crate `serial` promise one another.
pub mod Steps
