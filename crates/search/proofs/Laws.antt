-- Lemmas on the definitions, as the proofs of the code cite them.
pub mod Steps
pub mod Turns
pub mod Runs
pub mod Ends
pub mod Whole
pub mod Find
pub mod Ticks
