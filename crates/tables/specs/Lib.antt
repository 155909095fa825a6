-- What the crate `tables` means.
pub mod Reduced
