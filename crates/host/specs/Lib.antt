-- What the crate `host` promises of its entries on a buffer.
pub mod Buffers
