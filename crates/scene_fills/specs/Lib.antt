-- A fill of a scene. What a reader must believe: Fills. What is proved of it: Laws.
pub mod Fills
pub mod Laws
