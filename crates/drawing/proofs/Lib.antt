-- The laws of how a plan is drawn.
pub mod Sources
pub mod Paints
pub mod Fitting
pub mod Halved
