-- walkprint's lines in bytes. What a reader must believe: Lines. How the code has their words: Words. What is proved of it: LineLaws.
pub mod Lines
pub mod Words
pub mod LineLaws
