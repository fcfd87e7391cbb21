-- What a scene's records write. What a reader must believe: Made. What is proved of it: Laws.
pub mod Made
pub mod Laws
