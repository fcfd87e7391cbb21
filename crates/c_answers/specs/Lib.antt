-- What a C caller is answered: a search's record, an edge check's number, a walk-back's number and place. What a reader must believe: Answers. What is proved of it: Laws.
pub mod Answers
pub mod Laws
