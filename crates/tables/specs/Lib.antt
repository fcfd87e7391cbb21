-- Bad worlds. What a reader must believe: BadWorld. What is proved of it: Laws, Good.
pub mod BadWorld
pub mod Laws
pub mod Good
