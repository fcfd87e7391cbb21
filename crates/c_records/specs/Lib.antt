-- The records that a C caller hands over. What a reader must believe: Records, Asked. What is proved of it: Laws.
pub mod Records
pub mod Asked
pub mod Laws
