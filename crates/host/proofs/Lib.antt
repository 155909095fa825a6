-- What the proofs of the entries on a buffer share, and how the arms of a branch are joined.
pub mod Lengths
pub mod Branches
