-- What walkprint tells of a scene. What a reader must believe: Print. What is proved of it: Taken, Laws.
pub mod Print
pub mod Taken
pub mod Laws
