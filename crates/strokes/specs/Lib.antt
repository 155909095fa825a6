-- Words in the span routine's contracts.
pub mod Progress
