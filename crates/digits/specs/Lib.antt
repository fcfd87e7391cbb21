-- Numbers in digits. What a reader must believe: Digits, Writing. What is proved of them: Laws.
pub mod Digits
pub mod Writing
pub mod Laws
