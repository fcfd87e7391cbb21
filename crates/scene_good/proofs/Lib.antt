-- The theorems: Good. Turns and SumLaws lead to them.
pub mod Turns
pub mod SumLaws
pub mod Good
