-- The laws of a walk.
pub mod Fields
pub mod Visits
pub mod Dotting
pub mod Outcomes
