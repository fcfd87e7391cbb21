-- The begin of a search in slices. What a reader must believe: Openings, and of `outcomes` Ticks. What is proved of it, in proofs/: Laws.
pub mod Openings
