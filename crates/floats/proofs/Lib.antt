-- Theorems on what is no number.
pub mod NoNumber
