-- The ends of a search. What a reader must believe: Ends. What is proved of it: Laws.
pub mod Ends
pub mod Laws
