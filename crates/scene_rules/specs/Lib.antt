-- When a scene's record is good. What a reader must believe: Rules. What is proved of it: Laws.
pub mod Rules
pub mod Laws
