-- The state behind a record. What a reader must believe: Next. What is proved of it: Laws.
pub mod Next
pub mod Laws
