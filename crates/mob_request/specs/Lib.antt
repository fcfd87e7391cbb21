-- What a mob's search asks. What a reader must believe: Asked.
pub mod Asked
