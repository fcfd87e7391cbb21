-- How the end of a run is told, and whether there is one. The definitions are those of `outcomes`, and GoesOn. What is proved of them: Laws.
pub mod GoesOn
pub mod Laws
