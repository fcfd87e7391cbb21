-- The heights of a column. What a reader must believe: Heights, Lowest. The words of what is proved of it: Put, Laws. The theorems stand in proofs/: Next, Put, BatchLaws, Laws.
pub mod Heights
pub mod Lowest
pub mod Put
pub mod Laws
