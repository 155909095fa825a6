-- Words in the contracts of `words` and of the span routine.
pub mod Words
