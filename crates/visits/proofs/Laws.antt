-- Lemmas on the definitions, as the proofs of the code cite them.
pub mod Policy
pub mod Visits
