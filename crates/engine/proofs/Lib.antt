-- The laws of the shorter way, of a walk and of a plan carried out.
pub mod Letters
pub mod Walking
pub mod Carried
