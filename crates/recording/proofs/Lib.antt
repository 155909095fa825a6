-- What the stores of the code leave in the buffer.
pub mod Stores
