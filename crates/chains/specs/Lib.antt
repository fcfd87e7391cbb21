-- The parents of nodes. What a reader must believe: Chains. What is proved of it: Laws, and for the code Marks.
pub mod Chains
pub mod Laws
pub mod Marks
