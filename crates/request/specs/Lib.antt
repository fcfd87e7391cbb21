-- What a search may be asked. What a reader must believe: Request. What is proved of it: Laws.
pub mod Request
pub mod Laws
