-- The list that a search found, written. The definitions are those of `rooms`. What is proved of them: Laws.
pub mod Laws
