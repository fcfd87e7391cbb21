-- A mob's search. What a reader must believe: FindPath. What is proved of it: Laws.
pub mod FindPath
pub mod Laws
