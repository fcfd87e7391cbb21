-- Lemmas on the definitions, as the proofs of the code cite them.
pub mod Fields
pub mod Scans
pub mod Rooms
pub mod Lists
