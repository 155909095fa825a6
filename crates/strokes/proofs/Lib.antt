-- Words in memory; turns of the loops over words and bytes; the pixels changed, and those enabled, counted; the copy buffer by words; text.
pub mod Stored
pub mod Turns
pub mod Words
pub mod Tallies
pub mod SetBits
pub mod Buffers
pub mod Letters
