-- Whether a search's rooms and counts can be gone on with. What a reader must believe: Progress, and of `chains` Chains. What is proved of it: Laws.
pub mod Progress
pub mod Laws
