-- The height of a jump. What a reader must believe: Answers, Jump. What is proved of them: Laws, Infinite.
pub mod Answers
pub mod Jump
pub mod Laws
pub mod Infinite
