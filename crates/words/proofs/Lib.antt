-- The laws of words of eight pixels.
pub mod Spread
pub mod Rotation
pub mod Turning
pub mod Joined
pub mod Marks
