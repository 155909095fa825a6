-- The samples of the scope paper and of Ask 5, and the laws of what a write means.
pub mod Samples
pub mod LineSamples
pub mod Tests
pub mod Outcome
pub mod Numbers
