-- A whole scene. What a reader must believe: Whole. What is proved of it: Laws.
pub mod Whole
pub mod Laws
