-- What the contracts of the public search, of the walk-back and of the length imply. What a reader must believe: Words, and the statements of Claims, Reasons and
-- Level.
pub mod Words
pub mod Laws
pub mod Claims
pub mod Reasons
pub mod Level
