-- What is judged before a question about a world is answered. What a reader must believe: Questions. What is proved of it: proofs/Laws.
pub mod Questions
