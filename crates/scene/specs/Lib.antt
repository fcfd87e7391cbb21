-- Scenes, record by record. What a reader must believe: Scene, Progress. What is proved of them: Laws.
pub mod Scene
pub mod Progress
pub mod Laws
