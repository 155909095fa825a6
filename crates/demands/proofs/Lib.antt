-- The demands, as theorems over the definitions of `rules`.
pub mod Visits
pub mod Counting
pub mod Demand1
pub mod Demand2
pub mod Demand3
pub mod Twice
pub mod Lines
pub mod Witness
pub mod Changed
pub mod ChangedSample
pub mod Quiet
pub mod Caliper
pub mod CaliperSample
pub mod Seam
pub mod Hatch
pub mod HatchSample
