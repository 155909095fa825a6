-- The laws of a write's plan: it is what the definitions of `rules` say.
pub mod Rows
pub mod WordBits
pub mod Plans
pub mod PlanNumber
pub mod PlanEffect
