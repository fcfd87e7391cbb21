-- One pair of a list. What a reader must believe: Pairs. What is proved of it: Unique. What the code goes by: Laws.
pub mod Pairs
pub mod Laws
pub mod Unique
