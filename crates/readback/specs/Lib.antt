-- What the crate `readback` means.
pub mod ReadBack
