-- Whether a search begins. What a reader must believe: Refusals. What is proved of it, in proofs/: Laws, Unique.
pub mod Refusals
