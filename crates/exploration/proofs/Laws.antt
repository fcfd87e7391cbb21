-- Lemmas on the definitions, on the way to Claims. Those that the proofs of a code's loops cite stand in Loops.
pub mod Lists
pub mod Apart
pub mod Visits
pub mod Loops
pub mod Counts
pub mod Kept
pub mod Roots
pub mod Invariant
pub mod Expansions
pub mod Budgets
pub mod Endings
pub mod WalkBack
pub mod Guides
pub mod Choices
pub mod Estimates
pub mod FloatOrder
