-- The law of the fill mask's rotation.
pub mod Rotation
