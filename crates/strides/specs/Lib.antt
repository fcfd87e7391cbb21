-- One edge of an expansion. What a reader must believe: Strides. What is proved of it: Laws, Unique.
pub mod Strides
pub mod Laws
pub mod Unique
