-- Where a body may be. What a reader must believe: Places. What is proved of it: Laws.
pub mod Places
pub mod Laws
