-- The list that is walked back. What a reader must believe: Listed, Compared. What the code goes by: Laws.
pub mod Listed
pub mod Compared
pub mod Laws
