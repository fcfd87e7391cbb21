-- The four sides of a point. What a reader must believe: Sides. What is proved of it: Laws.
pub mod Sides
pub mod Laws
