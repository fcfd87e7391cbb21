-- Theorems on the bytes of numbers.
pub mod Low
