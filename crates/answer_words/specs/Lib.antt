-- The words of a number. What a reader must believe: Table. What is proved of it: Laws.
pub mod Table
pub mod Laws
