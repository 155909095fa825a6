-- What the crate `typed` means.
pub mod Typed
