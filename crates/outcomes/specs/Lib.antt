-- What a search answers. What a reader must believe: Outcomes, and of a search in slices Ticks. What is proved of it: proofs/Laws, proofs/Unique.
pub mod Outcomes
pub mod Ticks
