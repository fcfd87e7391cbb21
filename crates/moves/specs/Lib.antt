-- The movement and the lift of an edge. What a reader must believe: Moves. What is proved of it: Laws, and Unique in proofs/.
pub mod Moves
pub mod Laws
