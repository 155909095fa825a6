-- What the engine's answer to an entry means for the reader, and a turn of the loop over the bytes.
pub mod Drawn
pub mod Reading
