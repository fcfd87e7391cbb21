-- Edges and the connector. What a reader must believe: Edges, Reasons, and `ways`. What is proved of it: Claims, Answers, and Laws of proofs/.
pub mod Edges
pub mod Reasons
pub mod Answers
pub mod Claims
