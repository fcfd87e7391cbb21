-- What the input's counts promise.
pub mod Counts
