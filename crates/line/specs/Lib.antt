-- Change request 2: a trace that arrives over a serial line.
pub mod Serial
pub mod Arrival
pub mod Ahead
