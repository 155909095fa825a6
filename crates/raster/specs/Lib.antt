-- What the crate `raster` means.
pub mod Pixel
pub mod Operations
