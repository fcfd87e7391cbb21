-- The way of an edge. What a reader must believe: Ways. What the code goes by: proofs/Laws.
pub mod Ways
