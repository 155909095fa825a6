-- What the crate `card` means: scope paper, "Registers".
pub mod Registers
pub mod Reset
pub mod Access
