-- The lines of what is told. What a reader must believe: Lines. What is proved of it: Laws.
pub mod Lines
pub mod Laws
