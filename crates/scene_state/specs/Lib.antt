-- What has been read of a scene, and the reader's answers. What a reader must believe: State, Answers. What is proved of them: Unique.
pub mod State
pub mod Answers
pub mod Unique
