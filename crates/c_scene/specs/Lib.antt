-- A scene's answer in the record of a C caller. What a reader must believe: Scenes. What is proved of it: Laws.
pub mod Scenes
pub mod Laws
