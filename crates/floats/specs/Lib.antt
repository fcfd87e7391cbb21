-- Floats. What a reader must believe: Floats. What is proved of it: Patterns, Laws, Order, Zeros, Sums, Differences.
pub mod Floats
pub mod Patterns
pub mod Laws
pub mod Order
pub mod Zeros
pub mod Sums
pub mod Differences
