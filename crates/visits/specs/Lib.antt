-- One step of the search on its rooms. What a reader must believe: Best, Visits. What is proved of them: proofs/Laws, proofs/Unique.
pub mod Best
pub mod Visits
